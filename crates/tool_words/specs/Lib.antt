pub use Rattle.line_text.specs.Numbers
pub mod CommandNames
pub mod FileName
pub mod Given
pub mod CommandWords
pub mod Within
pub mod Line
