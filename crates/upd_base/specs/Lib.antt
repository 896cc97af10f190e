pub mod Text
pub mod Kind
pub mod Item
pub mod Batch
pub mod Body
pub mod Log
pub mod Edge
pub mod Plan
