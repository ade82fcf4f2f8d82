pub mod Outside
pub mod Fails
pub mod Heap
pub mod Entries
pub mod MemState
pub mod MemSteps
pub mod MemView
