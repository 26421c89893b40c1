pub mod Calls
pub mod Life
-- ---- what proofs and the parts of this crate use among themselves
pub mod Arrived
pub mod Ready
