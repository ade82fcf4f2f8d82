pub mod Desks
pub mod Mail
pub mod Making
