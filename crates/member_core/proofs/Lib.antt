pub mod Fitting
pub mod Told
pub mod Outcomes
pub mod Processing
