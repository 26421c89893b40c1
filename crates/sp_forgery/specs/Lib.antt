pub mod Brought
pub mod Found
pub mod Whats
-- ---- what proofs and the parts of this crate use among themselves
pub mod Turns
