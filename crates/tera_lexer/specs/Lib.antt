pub mod grammar
pub mod reading
pub mod code
