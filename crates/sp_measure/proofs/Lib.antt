pub mod MeterLemmas
