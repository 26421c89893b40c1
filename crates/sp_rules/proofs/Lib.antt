pub mod ArrivalLemmas
pub mod ChoiceLemmas
pub mod FlowDue
pub mod FlowJudged
pub mod MaskLemmas
pub mod Standing
pub mod ToldLemmas
pub mod WindowLemmas
