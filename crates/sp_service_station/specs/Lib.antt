pub mod Texts
pub mod Stations
pub mod Supplies
