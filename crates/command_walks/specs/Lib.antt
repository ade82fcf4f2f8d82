pub use Rattle.store_io.specs.Outside
pub use Rattle.mm_grammar.specs.Matrix
pub use Rattle.mm_grammar.specs.Reading as MatrixReading
pub use Rattle.mm_grammar.specs.Faults
pub use Rattle.piece_grammar.specs.Head as PieceHead
pub use Rattle.piece_grammar.specs.Pieces
pub use Rattle.piece_grammar.specs.Faults as PieceFaults
pub use Rattle.piece_file.specs.Gathering
pub use Rattle.tool_lines.specs.Texts
pub use Rattle.tool_lines.specs.FaultTexts
pub use Rattle.tool_lines.specs.Saying
pub use Rattle.save_list.specs.Save
pub use Rattle.save_list.specs.Saving
pub mod Codes
pub mod Answer
pub mod Walk
pub mod ReadingWalks
pub mod Outcome
pub mod Following
