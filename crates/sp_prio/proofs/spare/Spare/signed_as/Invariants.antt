use Rattle.std.proofs.Common.{◌≡◌, ◌<◌, ◌+◌, All, length, replicate, vec_capacity}
use Rattle.std.specs.Vec.Iter.{into_iter_items}
use Rattle.sp_prio.specs.Parcel.{beside_count}
use Rattle.sp_prio.specs.Spare.{Becomes}
use Rattle.sp_prio.proofs.spare.Spare.signed_as.Given as goal

abbrev pub invariant-copies : goal.invariant-copies
invariant-copies l = record {
  can : (goal.iterator-copies).can_next l.copy-iterator;
  finite : (goal.iterator-copies).is_finite l.copy-iterator;
  each : All (Becomes l.kept) (into_iter_items l.copy-iterator);
  alike : l.signed.items ≡ replicate (length l.signed.items) l.kept;
  count : length l.signed.items + length (into_iter_items l.copy-iterator) ≡ beside_count l.fn.self.copies;
  roomy : beside_count l.fn.self.copies < vec_capacity l.signed;
}
