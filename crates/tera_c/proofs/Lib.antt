pub mod WithoutTree
pub mod FileLemmas
