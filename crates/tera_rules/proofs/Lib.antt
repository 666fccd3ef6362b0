pub mod BodiesLemmas
pub mod ConditionsLemmas
pub mod JudgedLemmas
pub mod PassedLemmas
pub mod Pending
pub mod RegisteredLemmas
pub mod RepeatedLemmas
pub mod RulesLemmas
