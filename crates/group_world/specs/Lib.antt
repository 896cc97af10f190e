pub mod Seen
pub mod Moves
pub mod Stands
pub mod Prepared
pub mod Makes
