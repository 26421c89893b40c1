pub mod Steps
-- ---- what proofs and the parts of this crate use among themselves
pub mod Kept
