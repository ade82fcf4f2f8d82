pub use Rattle.index_tools.specs.Home
pub use Rattle.index_tools.specs.Spread
pub use Rattle.proc_grid.specs.Grid
pub use Rattle.proc_grid.specs.Held
pub mod Bounds
pub mod Entries
pub mod Good
pub mod InfoOf
