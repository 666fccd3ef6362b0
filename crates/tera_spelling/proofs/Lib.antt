pub mod Spaces
pub mod Strings
pub mod Lexemes
pub mod Tags
pub mod Examples
pub mod Given
