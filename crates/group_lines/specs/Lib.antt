pub mod Visits
pub mod Told
