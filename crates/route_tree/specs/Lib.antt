pub mod Letters
pub mod Parents
pub mod Routes
