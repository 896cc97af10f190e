pub mod Brought
pub mod Knows
pub mod Worked
pub mod Worker
