pub mod Subexpressions
pub mod BodyPlaces
pub mod BodyOutput
pub mod BodyConditions
pub mod Templates
pub mod Derivations
