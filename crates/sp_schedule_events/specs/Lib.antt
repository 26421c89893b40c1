pub mod Scenarios
pub mod Documents
pub mod Table
pub mod Events
pub mod Acting
pub mod Lives
pub mod EventLines
pub mod Laws
-- ---- what proofs and the parts of this crate use among themselves
pub mod Counts
pub mod Kinds
pub mod Names
pub mod StartedNodes
pub mod Written
