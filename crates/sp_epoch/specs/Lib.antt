pub mod Numbers
pub mod Calls
pub mod Histories
pub mod Laws
-- ---- what the parts of this crate use among themselves
pub mod Stands
