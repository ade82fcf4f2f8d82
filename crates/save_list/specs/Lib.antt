pub use Rattle.store_io.specs.Outside
pub use Rattle.text_io.specs.Saving as Writes
pub mod Save
pub mod Saving
