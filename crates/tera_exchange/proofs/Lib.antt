pub mod EndingLemmas
pub mod ListedLemmas
pub mod NameLemmas
pub mod SendLemmas
pub mod ServingLemmas
