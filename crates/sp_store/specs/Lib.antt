pub mod Places
pub mod Sound
pub mod Wanted
pub mod Leaving
