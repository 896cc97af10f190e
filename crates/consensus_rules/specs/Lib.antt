pub mod Items
pub mod Delivered
pub mod Waiting
pub mod Instances
pub mod Consensus
pub mod Projection
