use Rattle.std.proofs.Common.{◌≡◌, ◌≤◌, ◌+◌, drop, filter, length}
use Rattle.sp_store.specs.Leaving.{leaves}
use Rattle.sp_store.specs.Places.{live}
use Rattle.sp_store.proofs.store.count_of.Given as goal

abbrev pub invariant-slots : goal.invariant-slots
invariant-slots l = record {
  few : l.count ≤ l.slot-index;
  all : l.count + length (filter (leaves l.leaving) (live (drop l.slot-index l.slots))) ≡ length (filter (leaves l.leaving) (live l.slots));
}
