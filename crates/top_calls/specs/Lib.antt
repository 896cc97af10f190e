pub mod Recorded
pub mod Checked
pub mod Causes
pub mod Made
pub mod Rehearsal
pub mod Live
