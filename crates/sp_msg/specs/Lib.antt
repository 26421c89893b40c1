pub mod Bodies
pub mod Caused
pub mod Fields
pub mod Laws
pub mod Masks
pub mod Views
