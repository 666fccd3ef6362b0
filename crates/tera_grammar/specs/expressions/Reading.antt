pub mod Rooms
pub mod Front
pub mod Bracketed
pub mod Atoms
pub mod Loop
pub mod Whole
