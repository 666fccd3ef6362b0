pub mod ConstantLemmas
pub mod EscapeLemmas
pub mod ListedLemmas
pub mod StepLemmas
