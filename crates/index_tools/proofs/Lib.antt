pub mod Counts
pub mod HomeLemmas
pub mod MultiplesLemmas
