pub mod Laws
pub mod TrapGraph
