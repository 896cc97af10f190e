pub mod Broadcasts
pub mod Heard
pub mod Starting
pub mod Calls
