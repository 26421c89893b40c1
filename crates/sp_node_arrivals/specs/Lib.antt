pub mod Arrival
-- ---- each kind of object: what is ready of it, and what its signatures cost
pub mod Signed
pub mod Weight
pub mod Prio
pub mod Ack
pub mod Rel
pub mod Slot
pub mod Epoch
-- ---- a whole frame
pub mod Ready
pub mod Work
pub mod Rooms
pub mod Done
pub mod Admitted
