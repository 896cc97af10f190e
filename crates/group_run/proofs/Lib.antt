pub mod Lists
pub mod Modules
pub mod Turns
pub mod Inputs
pub mod Prefixes
mod Taking
