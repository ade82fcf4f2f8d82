pub use Rattle.piece_moves.specs.MoveRuns
pub use Rattle.grid_exec.specs.JobView
pub use Rattle.rank_runner.specs.Ends
