pub mod Edges
pub mod AlongLaws
pub mod BroadcastLaws
pub mod CombineLaws
pub mod DoingLaws
pub mod FoldLaws
pub mod SubtreeLaws
pub mod OrderFree
