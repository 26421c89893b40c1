pub mod Turns
pub mod Follows
pub mod HeaderLemmas
pub mod Open
pub mod Schedules
