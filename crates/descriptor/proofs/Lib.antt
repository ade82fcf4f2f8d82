pub mod BoundsLemmas
pub mod ContextLemmas
pub mod InfoLemmas
pub mod PassLemmas
pub mod SeatLaws
