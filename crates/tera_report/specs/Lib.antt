pub mod Annotations
pub mod Logs
pub mod FullTexts
pub mod Unread
pub mod Trees
