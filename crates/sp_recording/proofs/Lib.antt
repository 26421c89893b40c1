pub mod LineLemmas
pub mod OuterLemmas
pub mod StageLemmas
pub mod WalkLemmas
pub mod ReadingLemmas
pub mod LawLemmas
