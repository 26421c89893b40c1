pub mod Seals
pub mod CrafterLemmas
pub mod Counting
pub mod Holding
