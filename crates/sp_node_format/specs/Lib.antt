pub mod Format
pub mod FormatLaws
pub mod GoodFields
pub mod PolledFrames
