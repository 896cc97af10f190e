pub mod Own
pub mod Fresh
pub mod Sized
pub mod Accepted
pub mod Quiet
