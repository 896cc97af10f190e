pub mod Text
pub mod Loop
pub mod Fields
pub mod Items
pub mod Bodies
pub mod Ahead
pub mod Onward
