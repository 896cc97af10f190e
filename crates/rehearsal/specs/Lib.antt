pub mod Choices
pub mod Rounds
pub mod Seeded
pub mod Ends
pub mod FullAtRest
