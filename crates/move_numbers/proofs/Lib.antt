pub mod MoveCounts
