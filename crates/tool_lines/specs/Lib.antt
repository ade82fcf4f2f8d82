pub use Rattle.store_io.specs.Outside
pub use Rattle.line_text.specs.Lines
pub use Rattle.mm_grammar.specs.Faults
pub use Rattle.piece_grammar.specs.Faults as PieceFaults
pub mod Texts
pub mod FaultTexts
pub mod Saying
