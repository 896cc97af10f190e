pub mod Growth
pub mod Acts
pub mod Laws
