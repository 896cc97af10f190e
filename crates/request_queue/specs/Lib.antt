pub mod Request
