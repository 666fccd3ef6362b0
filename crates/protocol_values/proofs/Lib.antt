pub mod ChangeLemmas
pub mod NumberLemmas
