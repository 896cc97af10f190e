pub mod Seated
pub mod Table
