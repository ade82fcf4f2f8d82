pub mod SayingLemmas
pub mod PartsLaws
