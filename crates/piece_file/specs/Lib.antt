pub use Rattle.store_io.specs.Outside
pub use Rattle.text_io.specs.Reading
pub use Rattle.text_io.specs.Halting as TextHalting
pub use Rattle.text_io.specs.Writing
pub use Rattle.text_io.specs.Saving
pub use Rattle.pack_words.specs.LocalCells
pub use Rattle.piece_grammar.specs.Head as PieceHead
pub use Rattle.piece_grammar.specs.Turn
pub use Rattle.piece_grammar.specs.PieceText
pub use Rattle.piece_grammar.specs.PieceFault as FaultOfPiece
pub use Rattle.piece_grammar.specs.Pieces
pub use Rattle.piece_grammar.specs.PlainPiece
pub mod HeadView
pub mod PieceView
pub mod FaultView
pub mod Asking
pub mod Halting
pub mod Gathering
