pub mod Elifs
pub mod Calls
pub mod Escapes
