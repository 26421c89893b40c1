pub mod Header
pub mod Scenarios
pub mod Spelling
pub mod Lines
pub mod Refusals
pub mod Readings
pub mod Feeds
pub mod Laws
