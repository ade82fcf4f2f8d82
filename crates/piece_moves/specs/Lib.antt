pub use Rattle.mr2d.specs.Moves
pub use Rattle.mr2d.specs.Calls as MoveCalls
pub use Rattle.piece_grammar.specs.Head as PieceHead
pub use Rattle.piece_file.specs.PieceView
pub use Rattle.piece_file.specs.Gathering
pub mod Distribution
pub mod DistributionView
pub mod PieceMove
pub mod Sizes
pub mod Planning
pub mod Numbers
pub mod MoveRuns
