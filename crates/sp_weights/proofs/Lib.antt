pub mod EffectLemmas
pub mod SoundLemmas
