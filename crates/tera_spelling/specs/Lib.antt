pub mod Spelling
pub mod Sources
pub mod Given
