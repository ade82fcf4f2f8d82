pub mod ParentLaws
pub mod RouteLaws
pub mod GatherLaws
