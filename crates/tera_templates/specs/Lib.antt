pub mod Boundaries
pub mod FaultFindings
pub mod Hints
pub mod Ignores
pub mod Lost
pub mod Mended
pub mod Parents
pub mod Templates
