pub mod OneLine
pub mod Pieces
pub mod Plain
pub mod Texts
