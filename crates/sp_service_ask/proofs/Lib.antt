pub mod ListenLemmas
