pub mod Boots
pub mod Entries
pub mod Uses
pub mod Stays
pub mod Supplied
pub mod Order
