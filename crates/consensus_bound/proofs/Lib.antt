pub mod Counts
pub mod Bound
