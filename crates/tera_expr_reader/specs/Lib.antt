pub mod Frames
pub mod Unfold
pub mod Elements
pub mod Chains
pub mod Calls
pub mod Attributes
pub mod Outermost
pub mod Lone
