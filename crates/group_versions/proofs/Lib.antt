pub mod Versions
pub mod Logs
