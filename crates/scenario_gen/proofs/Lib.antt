pub mod Line
pub mod Counts
pub mod Tree
pub mod Payload
pub mod Steps
pub mod Length
pub mod Plans
pub mod Loops
