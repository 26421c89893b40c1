pub mod GoodDrafts
pub mod DraftKeys
pub mod KnownEnds
