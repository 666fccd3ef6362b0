pub mod Printable
pub mod Safe
pub mod Steps
