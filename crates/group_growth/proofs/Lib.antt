pub mod Plans
pub mod Alike
pub mod Saying
pub mod Logs
pub mod Acting
