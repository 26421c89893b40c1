pub mod Past
-- ---- what proofs and the parts of this crate use among themselves
pub mod Stands
pub mod Arrivals
pub mod Boots
pub mod Scenes
pub mod Documents
pub mod Kept
