pub mod Members
pub mod Reading
pub mod Writing
