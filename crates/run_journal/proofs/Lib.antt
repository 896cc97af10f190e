pub mod Props
pub mod Reading
pub mod Bounds
pub mod Recorded
pub mod Lists
pub mod Accepting
