pub mod Kept
pub mod Stands
pub mod Acts
pub mod Steps
