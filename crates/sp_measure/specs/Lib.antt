pub mod Costs
pub mod Hashed
pub mod Meters
pub mod Places
pub mod Proofs
