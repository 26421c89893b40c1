pub mod NumberLemmas
pub mod HistoryLemmas
