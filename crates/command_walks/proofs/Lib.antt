pub mod WalkLaws
pub mod LimitLaws
pub mod ReadingLaws
pub mod GatheringLaws
pub mod GoingOn
pub mod EndLaws
pub mod Completeness
