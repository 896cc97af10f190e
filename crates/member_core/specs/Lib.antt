pub mod Member
pub mod Input
pub mod Prepared
pub mod Foretold
