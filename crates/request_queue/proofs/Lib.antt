pub mod Limits
pub mod Order
