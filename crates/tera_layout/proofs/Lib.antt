pub mod Defaults
pub mod Respaced
pub mod Likeness
pub mod Steadies
pub mod Openings
pub mod RawPieces
pub mod Narrowed
pub mod Bytes
pub mod Solids
pub mod Together
pub mod Layouts
pub mod WrittenLayout
pub mod LineFeeds
mod Examples
