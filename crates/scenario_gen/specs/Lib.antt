pub mod Generate
pub mod Spelling
