pub mod Splitting
pub mod Amid
