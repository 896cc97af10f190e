pub mod Bytes
pub mod Fails
pub mod Seen
