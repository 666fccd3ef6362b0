pub mod BlocksLemmas
pub mod BodiesLemmas
pub mod CapturesLemmas
pub mod ConditionsLemmas
pub mod EmptyLemmas
pub mod ItemsLemmas
pub mod SimpleLemmas
pub mod TemplatesLemmas
