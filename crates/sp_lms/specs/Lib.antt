pub mod Parameters
pub mod Numbers
pub mod Trees
pub mod Keys
pub mod Validity
pub mod PublicKey
pub mod Key
pub mod Growing
pub mod Laws
-- ---- what proofs and the parts of this crate use among themselves
pub mod Nodes
pub mod Kept
pub mod Grown
pub mod Form
