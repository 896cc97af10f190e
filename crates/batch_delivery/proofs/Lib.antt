pub mod Lists
pub mod Reach
pub mod Fits
pub mod Steps
