pub mod Colours
pub mod Jobs
