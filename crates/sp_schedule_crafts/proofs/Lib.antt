pub mod WordLists
pub mod FormLemmas
