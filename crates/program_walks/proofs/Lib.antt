pub mod ProgramLaws
pub mod LineLaws
pub mod RunLaws
pub mod CheckLaws
