pub mod Sealing
pub mod Work
