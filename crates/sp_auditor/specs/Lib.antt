pub mod Texts
pub mod Causes
pub mod Verdicts
pub mod Counts
pub mod Lines
pub mod Answers
pub mod Ends
pub mod Laws
