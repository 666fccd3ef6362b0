pub mod BelowLemmas
mod BesideLemmas
pub mod FindingLemmas
pub mod ListingLemmas
pub mod NameLemmas
pub mod TextLemmas
