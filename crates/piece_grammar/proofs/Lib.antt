pub mod Rows
pub mod Table
pub mod Heads
pub mod Steps
pub mod Laws
pub mod GatherLaws
pub mod GoodHeads
pub mod PlainPieceLaws
