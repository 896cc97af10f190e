pub mod Lists
pub mod Moves
pub mod Passes
pub mod Sums
pub mod Tallies
pub mod Turns
