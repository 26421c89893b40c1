pub mod Keys
pub mod Values
pub mod Walks
pub mod Readings
pub mod RefusedLines
pub mod Good
