pub mod Configured
pub mod Paths
