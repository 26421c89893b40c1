pub mod FieldReads
pub mod GraphLaws
pub mod Judged
pub mod NeighbourLemmas
pub mod NoMemory
pub mod Onto
pub mod ReadLemmas
pub mod Spelled
