pub mod Spelling
pub mod Reader
pub mod Reading
pub mod Laws
pub mod Progress
