pub mod Asking
pub mod Listening
