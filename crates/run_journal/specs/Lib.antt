pub mod Journal
pub mod Asked
pub mod Causes
pub mod Serving
