pub mod Refusals
pub mod Counted
-- ---- what proofs and the parts of this crate use among themselves
pub mod Lists
pub mod Shares
pub mod Shelves
pub mod Firsts
pub mod Tops
pub mod Agreed
pub mod Seen
pub mod Ends
