pub mod Integrity
pub mod Fresh
pub mod Laws
