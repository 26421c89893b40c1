pub mod OpenEdges
pub mod ChoiceLemmas
pub mod FewSets
pub mod JoinedLemmas
pub mod PageLemmas
pub mod WeighedLemmas
