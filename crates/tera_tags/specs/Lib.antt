pub mod Components
pub mod Heads
pub mod Kinds
pub mod Knowing
pub mod Known
pub mod Parameters
pub mod Reading
pub mod Settings
