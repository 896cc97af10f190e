pub mod Read
pub mod Serves
pub mod Rehearsals
pub mod Scenarios
pub mod Checks
pub mod MadeLines
pub mod LiveRuns
