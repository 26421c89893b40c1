pub mod CountLemmas
pub mod PublishedLemmas
pub mod DocumentLemmas
pub mod NameLemmas
pub mod CraftLemmas
pub mod EventLemmas
pub mod LifeLemmas
pub mod WrittenLemmas
