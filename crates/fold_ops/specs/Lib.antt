pub mod Join
pub mod Tree
pub mod Fold
pub mod FoldOf
pub mod SumLaws
pub mod OrderLaws
