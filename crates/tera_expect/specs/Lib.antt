pub mod Notes
pub mod Taking
