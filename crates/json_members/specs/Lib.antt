pub mod Members
pub mod Written
