pub mod Cuts
pub mod Decision
pub mod Fronts
pub mod Lengths
pub mod Uses
pub mod Validity
