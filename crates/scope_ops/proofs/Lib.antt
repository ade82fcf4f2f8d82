mod Along
mod Below
mod Calls
mod CombineArrays
mod CombineCalls
mod Fitting
mod Leads
mod Needed
mod Placed
mod Points
mod Quiet
mod Ranks
mod Scoped
mod Within
pub mod BarrierMeans
pub mod CombineAble
pub mod CombineMeans
pub mod CombineShown
pub mod Gathered
pub mod Gathers
pub mod Owns
pub mod Relays
pub mod Stored
pub mod Tables
