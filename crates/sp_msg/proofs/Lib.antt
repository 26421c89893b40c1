pub mod EncodedIsRead
pub mod EncodingLemmas
pub mod FieldLemmas
pub mod GoodFields
pub mod HalfLemmas
pub mod LongLemmas
pub mod MaskLemmas
pub mod ReadIsEncoded
