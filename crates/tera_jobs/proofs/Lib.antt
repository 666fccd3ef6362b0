pub mod FixingLemmas
pub mod Joined
pub mod Lists
pub mod PlanLemmas
pub mod ReadingLemmas
pub mod Same
pub mod SourcesLemmas
pub mod TreeLemmas
