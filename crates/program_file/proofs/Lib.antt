pub mod LineCuts
pub mod EarlyLaws
pub mod PieceLaws
