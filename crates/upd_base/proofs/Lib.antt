pub mod Maps
pub mod Same
pub mod Fits
pub mod PlanFacts
