pub mod CostLemmas
pub mod EchoLemmas
pub mod EndLemmas
pub mod GapLemmas
pub mod KeptLemmas
pub mod ReceiptLemmas
