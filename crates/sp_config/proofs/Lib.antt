pub mod DigitLemmas
pub mod GoodLemmas
pub mod GraphLemmas
pub mod TableLemmas
pub mod WalkLemmas
