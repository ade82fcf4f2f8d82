pub mod FirstLemmas
pub mod GridLemmas
pub mod MapLemmas
pub mod PlaceLemmas
pub mod ScopeLemmas
