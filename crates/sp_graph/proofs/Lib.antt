pub mod EdgeLemmas
pub mod GraphLemmas
pub mod ReadingLemmas
pub mod OneReading
pub mod Texts
pub mod MaskLemmas
