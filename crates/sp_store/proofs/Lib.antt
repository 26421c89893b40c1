pub mod ChosenLemmas
pub mod CountLemmas
pub mod FreeLemmas
pub mod IdLemmas
pub mod LeftLemmas
pub mod PlaceLemmas
