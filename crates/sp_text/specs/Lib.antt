pub mod Spelling
pub mod Lines
pub mod Texts
pub mod Unread
