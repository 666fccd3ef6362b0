pub mod Faults
pub mod Levels
pub mod Meaning
pub mod Messages
pub mod Near
pub mod Places
pub mod Sections
pub mod Values
