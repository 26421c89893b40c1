pub mod FormatFits
pub mod GoodFields
pub mod ObjectLengths
pub mod PolledFrames
