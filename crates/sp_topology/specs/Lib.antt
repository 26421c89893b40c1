pub mod Documents
pub mod Faults
pub mod Heights
pub mod Keys
pub mod Neighbours
pub mod Ranges
