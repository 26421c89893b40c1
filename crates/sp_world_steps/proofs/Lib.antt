pub mod Stepping
pub mod Among
pub mod Without
pub mod Objects
pub mod FrameRows
pub mod Rules
