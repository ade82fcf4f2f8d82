pub mod HomeTables
pub mod JoiningLaws
pub mod OwnedLemmas
pub mod OwnedLists
pub mod PieceLemmas
pub mod SpreadLaws
pub mod BackLaws
