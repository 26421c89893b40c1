pub mod Objects
-- ---- what proofs and the parts of this crate and of the events' use among themselves
pub mod Reading
pub mod Written
