pub mod Earliest
pub mod Order
pub mod Queue
