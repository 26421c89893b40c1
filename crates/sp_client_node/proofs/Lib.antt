pub mod Sends
pub mod Takes
pub mod Refusals
