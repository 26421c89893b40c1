pub mod FlowLemmas
pub mod FateLemmas
pub mod SeatLemmas
pub mod SoundLemmas
pub mod Standing
pub mod TableLemmas
pub mod OwnFlows
