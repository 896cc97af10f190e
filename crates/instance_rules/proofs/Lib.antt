pub mod Votes
pub mod Places
pub mod Said
pub mod Agree
