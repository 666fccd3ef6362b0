pub mod Tellings
pub mod ValueViews
pub mod Showing
pub mod KeysAndValues
pub mod Puts
pub mod Equals
pub mod ContextViews
