pub mod MovePlans
