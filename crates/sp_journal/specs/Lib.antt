pub mod Words
pub mod JournalText
