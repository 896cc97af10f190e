pub mod Mem
pub mod Calls
