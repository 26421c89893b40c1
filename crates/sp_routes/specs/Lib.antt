pub mod Fewer
-- ---- what proofs and the parts of this crate use among themselves
pub mod Joined
pub mod Pages
