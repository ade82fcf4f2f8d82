pub mod Home
pub mod Multiples
pub mod Spread
