pub mod Places
pub mod Moved
pub mod Mending
pub mod Spans
pub mod Views
pub mod Readings
pub mod Lone
pub mod Cuts
