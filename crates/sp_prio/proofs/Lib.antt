pub mod FlightLemmas
pub mod MappedLemmas
pub mod RowLemmas
pub mod TellLemmas
mod BesideLemmas
mod SpareLemmas
pub mod Numbers
