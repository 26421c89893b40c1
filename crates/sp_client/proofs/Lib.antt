pub mod FiveFields
pub mod PayloadLemmas
pub mod LineLemmas
pub mod RequestLemmas
pub mod TableLemmas
