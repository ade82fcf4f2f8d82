pub mod Passes
pub mod Columns
pub mod LocalWords
pub mod Contents
pub mod Shares
pub mod RankWords
