pub mod Clocks
pub mod Heard
pub mod Laws
pub mod Sorted
pub mod Stamps
