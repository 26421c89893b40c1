use Rattle.std.proofs.Common.{◌≡◌, All, length}
use Rattle.sp_prio.specs.Spare.{Becomes}
use Rattle.sp_prio.proofs.spare.unsigned_of.Given as goal

abbrev pub invariant-copies : goal.invariant-copies
invariant-copies l = record {
  each : All (Becomes l.kept) l.unsigned.items;
  count : length l.unsigned.items ≡ l.counter;
}
