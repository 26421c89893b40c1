pub mod TextLemmas
pub mod VerdictLemmas
pub mod ReadingLemmas
