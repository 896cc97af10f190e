pub mod Canon
pub mod Loud
pub mod Versions
