pub mod RangeLemmas
pub mod RingLemmas
