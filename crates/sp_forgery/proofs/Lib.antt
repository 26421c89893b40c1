pub mod Numbered
pub mod SignedThere
pub mod Turns
pub mod Finding
pub mod Adopting
pub mod Outcomes
pub mod Short
pub mod Rules
