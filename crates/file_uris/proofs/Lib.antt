pub mod DecodingLemmas
pub mod Texts
