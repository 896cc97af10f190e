pub mod Say
pub mod History
pub mod Ballot
pub mod Place
pub mod Says
pub mod Run
pub mod Bodies
