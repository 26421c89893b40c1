use Rattle.std.proofs.Common.{◌≡◌, drop, slice_get}
use Rattle.sp_store.specs.Places.{live}
use Rattle.sp_store.proofs.store.nth.Given as goal

abbrev pub invariant-slots : goal.invariant-slots
invariant-slots l = slice_get (live (drop l.slot-index l.slots)) l.left ≡ slice_get (live l.slots) l.place
