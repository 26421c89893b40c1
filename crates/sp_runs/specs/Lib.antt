pub mod Settings
pub mod Scenarios
pub mod Worlds
pub mod Inputs
pub mod Journals
pub mod Told
pub mod Forgery
pub mod Lives
pub mod Runs
-- ---- what events and their journal say of buffers and weights
pub mod Held
pub mod Bounds
pub mod Weights
pub mod Paths
pub mod Rounds
