pub mod expressions
pub mod statements
