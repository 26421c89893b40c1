pub mod KeyTree
pub mod Validity
pub mod Decision
pub mod SeedKey
pub mod Signer
pub mod Uses
pub mod Laws
-- ---- what proofs and the parts of this crate use among themselves
pub mod Tree
pub mod At
pub mod Front
pub mod Remembered
pub mod Kept
