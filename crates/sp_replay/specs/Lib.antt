pub mod Outputs
pub mod Fronts
pub mod Claims
pub mod Complete
pub mod Laws
-- ---- what proofs and the parts of this crate use among themselves
pub mod Played
pub mod Playing
