pub mod FirstFormat
pub mod GrammarLemmas
pub mod HeadLemmas
pub mod LengthLemmas
pub mod ObjectLemmas
pub mod SectionLemmas
pub mod TimesLemmas
