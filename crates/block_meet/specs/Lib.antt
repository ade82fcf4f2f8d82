pub mod Fits
pub mod Meets
pub mod Numbers
pub mod Pairs
pub mod Runs
pub mod Steps
pub mod Stretch
pub mod Table
