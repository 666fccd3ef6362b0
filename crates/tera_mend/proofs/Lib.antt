pub mod InPlace
pub mod Chains
pub mod Steps
pub mod Alone
pub mod PlacesLemmas
pub mod Kept
pub mod Spans
