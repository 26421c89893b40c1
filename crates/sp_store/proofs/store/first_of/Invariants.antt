use Rattle.std.proofs.Common.{◌≡◌, drop, find}
use Rattle.sp_store.specs.Leaving.{leaves}
use Rattle.sp_store.specs.Places.{live}
use Rattle.sp_store.proofs.store.first_of.Given as goal

abbrev pub invariant-slots : goal.invariant-slots
invariant-slots l = find (leaves l.leaving) (live (drop l.slot-index l.slots)) ≡ find (leaves l.leaving) (live l.slots)
