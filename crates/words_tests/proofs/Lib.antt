pub mod Adding
pub mod Lying
pub mod Taking
