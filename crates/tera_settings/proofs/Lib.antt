pub mod MeaningLemmas
pub mod NearLemmas
pub mod PlaceLemmas
pub mod ValueLemmas
