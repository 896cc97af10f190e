pub mod Text
pub mod Written
pub mod Grammar
pub mod Within
pub mod Stage
pub mod Tried
pub mod Reading
