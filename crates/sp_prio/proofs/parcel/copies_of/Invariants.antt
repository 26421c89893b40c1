use Rattle.std.proofs.Common.{◌≡◌, ◌<◌, replicate, vec_capacity}
use Rattle.sp_prio.proofs.parcel.copies_of.Given as goal

abbrev pub invariant-copies : goal.invariant-copies
invariant-copies l = record {
  items : l.copies.items ≡ replicate l.counter l.kept;
  room : l.count < vec_capacity l.copies;
}
