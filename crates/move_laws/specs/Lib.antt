pub mod WholeMoves
pub mod Ends
pub mod Starts
