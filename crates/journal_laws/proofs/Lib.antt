pub mod Spellings
pub mod Next
pub mod Ends
pub mod Lines
pub mod Texts
pub mod Runs
pub mod Faults
