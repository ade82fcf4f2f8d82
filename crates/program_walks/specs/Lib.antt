pub use Rattle.grid_lang.specs.Programs
pub use Rattle.program_meaning.specs.Programs as Meaning
pub use Rattle.command_walks.specs.Walk
pub use Rattle.command_walks.specs.ReadingWalks
pub mod ProgramTexts
pub mod ProgramWalks
pub mod Following
