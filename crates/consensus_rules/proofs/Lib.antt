pub mod Known
pub mod Delivered
pub mod Picks
pub mod Projection
pub mod Begun
pub mod Single
