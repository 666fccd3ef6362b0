pub mod ExcludedLemmas
pub mod KeptLemmas
pub mod MarkerLemmas
