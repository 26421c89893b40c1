pub mod Slots
pub mod Changes
pub mod Soundness
pub mod States
pub mod Starting
pub mod RefusedLines
