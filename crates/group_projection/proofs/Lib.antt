pub mod World
pub mod Bind
pub mod Moved
pub mod Going
pub mod Numbers
pub mod Kept
pub mod Runs
