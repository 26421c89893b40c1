pub mod Boots
pub mod States
-- ---- what the administrator publishes
pub mod Publications
-- ---- what a client sends
pub mod Sends
-- ---- what the calls of a node use of each other's proofs
pub mod ReadyStates
pub mod ReadySends
pub mod OnPaths
