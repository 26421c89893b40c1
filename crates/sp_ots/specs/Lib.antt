pub mod Parameters
pub mod Strings
pub mod Digits
pub mod Chains
pub mod Keys
pub mod Signature
pub mod Candidate
pub mod Form
-- ---- SHA-256 of four messages at once
pub mod Lanes
pub mod Blocks
-- ---- what proofs and the parts of this crate use among themselves
pub mod TwoLeaves
pub mod UnderWay
pub mod Leaves
