pub mod Calm
pub mod Progress
pub mod Fulfil
