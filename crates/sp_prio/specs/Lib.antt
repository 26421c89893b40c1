pub mod Answers
pub mod Parcel
pub mod Spare
pub mod Sound
pub mod Given
pub mod Flight
