pub mod Changes
pub mod Endings
pub mod Machine
pub mod Orders
pub mod Queues
pub mod Rounds
