pub mod NumberLemmas
pub mod RefusalLemmas
pub mod RowLemmas
pub mod ListLemmas
pub mod FewLemmas
pub mod FormatLemmas
