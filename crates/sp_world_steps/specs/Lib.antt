pub mod Gave
pub mod Asks
pub mod Members
pub mod Polls
