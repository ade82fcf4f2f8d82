pub mod FirstOf
pub mod Grid
pub mod GridInfo
pub mod Held
pub mod Refusals
pub mod Scopes
