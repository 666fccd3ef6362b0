pub mod AllLemmas
pub mod BetterLemmas
pub mod ComponentsLemmas
pub mod EditedLemmas
pub mod LawsLemmas
pub mod MeantLemmas
pub mod NamesLemmas
pub mod PartsLemmas
