pub mod Front
pub mod State
pub mod Stream
pub mod Left
