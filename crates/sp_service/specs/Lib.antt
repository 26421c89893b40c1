-- ---- configurations
pub mod Configured
pub mod Fits
pub mod NodeParts
pub mod Starts
-- ---- the daemon
pub mod Served
pub mod Complete
pub mod KeyLaws
-- ---- verification
pub mod Splits
pub mod Verdicts
-- ---- what proofs and the parts of this crate use among themselves
pub mod Parts
pub mod KeyFaults
