pub mod Seated
pub mod Places
-- ---- one flow at one node
pub mod Changes
pub mod Rows
pub mod Seats
-- ---- what the parts of this crate use among themselves
pub mod Fates
pub mod Sound
pub mod Tables
