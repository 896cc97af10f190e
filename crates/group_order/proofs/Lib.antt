pub mod Ordered
pub mod Switches
pub mod Limit
mod Whole
