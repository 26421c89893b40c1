pub mod Inboxes
pub mod Sound
