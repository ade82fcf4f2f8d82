pub mod ByMoveLaws
pub mod MovedPieces
