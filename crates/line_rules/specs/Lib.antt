pub mod Given
pub mod Received
pub mod LineState
pub mod Lines
pub mod Rest
pub mod Ends
