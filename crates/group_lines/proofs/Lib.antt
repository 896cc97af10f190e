pub mod Giving
pub mod Crashes
pub mod Ready
pub mod Going
pub mod OneLink
pub mod Turns
pub mod Ends
pub mod First
