pub mod Names
pub mod Defined
pub mod Coming
pub mod RefusedArguments
pub mod CallNames
pub mod CallSteps
pub mod PartLemmas
