pub use Rattle.piece_grammar.specs.Head as PieceHead
pub use Rattle.piece_moves.specs.Distribution
pub use Rattle.piece_moves.specs.Numbers
pub use Rattle.mr2d.specs.Moves
pub use Rattle.move_numbers.specs.MoveNumbers
pub mod Drawing
pub mod Rows
pub mod Dealing
pub mod Moving
pub mod Jobs
