pub mod PlanSteps
pub mod PlanPassing
pub mod Members
pub mod Gathering
