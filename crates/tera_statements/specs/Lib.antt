pub mod Adding
pub mod Around
pub mod Blocks
pub mod Captures
pub mod Conditions
pub mod Items
pub mod Simple
pub mod Templates
