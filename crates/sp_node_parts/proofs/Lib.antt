pub mod Closing
pub mod Starts
pub mod Later
