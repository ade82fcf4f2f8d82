mod LeafRules
mod Rows
mod Looks
mod LeafWalk
pub mod NumberLaws
mod LineWalk
mod AskedLaws
mod ReadLaws
mod LineLemmas
pub mod WithinLaws
pub mod GivenLaws
mod Examples
