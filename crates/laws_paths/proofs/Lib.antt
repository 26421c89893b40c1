pub mod Lists
pub mod Ways
pub mod Kept
pub mod Sets
pub mod Crossings
pub mod Duality
pub mod Computed
pub mod Trap
