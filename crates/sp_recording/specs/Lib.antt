pub mod LineTable
pub mod OuterRows
pub mod RecordingText
pub mod Reading
pub mod Laws
