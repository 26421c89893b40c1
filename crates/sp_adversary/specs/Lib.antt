pub mod Keys
pub mod Crafters
pub mod Signers
pub mod Crafting
pub mod Administrators
pub mod Documents
pub mod Boots
pub mod Laws
