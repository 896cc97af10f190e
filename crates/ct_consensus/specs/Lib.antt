pub mod Ballot
pub mod Ballots
pub mod Moves
pub mod Fit
pub mod Stance
pub mod Stands
pub mod Instance
