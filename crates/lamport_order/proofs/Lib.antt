pub mod Kept
pub mod Took
