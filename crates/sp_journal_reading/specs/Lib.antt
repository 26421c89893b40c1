pub mod EffectTable
pub mod ReplyTable
pub mod Reading
pub mod Laws
pub mod TextLaws
