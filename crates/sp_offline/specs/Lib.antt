pub mod Ranges
pub mod Answers
-- ---- `topology`
pub mod SignedDrafts
pub mod DraftAnswers
-- ---- `paths`
pub mod Queries
pub mod PathsLines
pub mod PathsRefusals
pub mod PathsAnswers
-- ---- what proofs and the parts of this crate use among themselves
pub mod SignedKeys
