pub mod PlanLaws
pub mod LensLaws
pub mod GoingLaws
pub mod CallLaws
pub mod AccumulatorLaws
pub mod GatheringLaws
