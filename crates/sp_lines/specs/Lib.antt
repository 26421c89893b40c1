pub mod Cells
pub mod Rows
pub mod Answers
pub mod Texts
pub mod Laws
-- ---- what proofs use among themselves
pub mod Widths
