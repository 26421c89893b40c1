pub mod DiskLemmas
pub mod RecordLemmas
