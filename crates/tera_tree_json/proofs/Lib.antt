pub mod Elifs
pub mod Pairs
pub mod FromFirst
pub mod Views
