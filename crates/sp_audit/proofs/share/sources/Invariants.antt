use Rattle.std.proofs.Common.{◌≡◌, ◌≤◌, ◌==◌, filter, length}
use Rattle.std.specs.List.{list_any, range_with_len}
use Rattle.sp_audit.proofs.share.sources.Given as goal

abbrev pub invariant-ids : goal.invariant-ids
invariant-ids l = record {
  counted : l.sources ≡ length (filter (λ id. list_any (λ h. h.src == id) l.held) (range_with_len 0 l.id));
  few : l.sources ≤ l.id;
}
