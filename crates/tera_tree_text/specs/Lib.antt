pub mod Quoted
pub mod QuotedBytes
pub mod TreeText
