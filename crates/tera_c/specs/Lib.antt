pub mod Asked
pub mod WithoutTree
pub mod Statuses
pub mod Results
pub mod Layouts
pub mod Files
pub mod FilesTogether
pub mod TreesWithFaults
