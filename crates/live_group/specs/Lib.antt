pub mod Recorded
pub mod Calls
pub mod Pass
pub mod SharedGroup
pub mod Turns
