pub mod Broadcasts
pub mod Runs
pub mod Sends
pub mod Sums
