pub mod values
