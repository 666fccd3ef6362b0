pub mod Ends
pub mod Excluded
pub mod Lines
pub mod Markers
pub mod Reasons
pub mod Settings
pub mod Views
