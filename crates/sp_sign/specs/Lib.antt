pub mod Blanks
pub mod Checks
pub mod Heights
pub mod NodeSigner
-- ---- what proofs and the parts of this crate use among themselves
pub mod Checker
