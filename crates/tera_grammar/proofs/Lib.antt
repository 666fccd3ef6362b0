pub mod Options
pub mod Words
pub mod expressions
pub mod statements
pub mod plain
pub mod stops
pub mod Readings
