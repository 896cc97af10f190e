pub mod Going
pub mod Here
pub mod Short
