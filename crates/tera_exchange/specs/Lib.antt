pub mod Reasons
pub mod Sent
pub mod Serving
