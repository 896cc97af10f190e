pub mod Entries
pub mod OwnPlaces
pub mod Turns
pub mod Standing
