pub mod CircleLemmas
pub mod EndLemmas
pub mod Paths
pub mod Steps
