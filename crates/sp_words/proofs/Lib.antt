pub mod PathsLemmas
pub mod CommaLemmas
