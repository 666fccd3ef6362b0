pub mod Promises
pub mod Comments
pub mod Notes
pub mod Refusal
pub mod Job
pub mod JobView
