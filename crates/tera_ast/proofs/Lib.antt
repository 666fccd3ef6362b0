pub mod Views
pub mod Texts
pub mod Copying
pub mod Equals
