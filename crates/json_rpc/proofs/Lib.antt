pub mod Documents
pub mod Adding
pub mod Escapes
pub mod RefusalBytes
pub mod Reserve
pub mod OneValue
pub mod ReadBack
pub mod Outlines
