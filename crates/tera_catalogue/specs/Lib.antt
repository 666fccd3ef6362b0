pub mod Constants
pub mod Escapes
pub mod Listed
pub mod Objects
pub mod Offered
pub mod Pages
