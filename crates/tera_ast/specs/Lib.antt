pub mod Tree
pub mod View
pub mod Text
pub mod Spans
pub mod Same
pub mod SameLaws
pub mod Form
