pub mod LineLaws
pub mod Rows
pub mod OperationLaws
pub mod FileSteps
