pub mod Limits
pub mod Options
pub mod Words
pub mod expressions
pub mod statements
pub mod Reads
