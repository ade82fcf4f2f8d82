pub use Rattle.file_tools.specs.SplitWalk
pub use Rattle.file_tools.specs.JoinWalk
pub use Rattle.file_tools.specs.MoveWalk
pub use Rattle.move_laws.specs.Starts
pub use Rattle.move_laws.specs.Ends
pub mod ByMoves
