pub use Rattle.store_io.specs.Outside
pub use Rattle.text_io.specs.Reading
pub use Rattle.grid_lang.specs.Programs
pub use Rattle.grid_lang.specs.Answers
pub mod ProgramFiles
pub mod Pieces
