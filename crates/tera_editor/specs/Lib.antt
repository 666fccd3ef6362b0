pub mod Clients
pub mod Editors
pub mod KnownFiles
pub mod Settings
pub mod Sites
pub mod Templates
pub mod UnreadFiles
