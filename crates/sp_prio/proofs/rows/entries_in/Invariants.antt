use Rattle.std.proofs.Common.{◌≡◌, ◌≤◌, ◌*◌, length, take}
use Rattle.std.specs.Prelude.{sum_by}
use Rattle.sp_prio.proofs.rows.entries_in.Given as goal

abbrev pub invariant-peers : goal.invariant-peers
invariant-peers l = record {
  count : l.count ≡ sum_by (λ q. length q.store.entries) (take l.peer-index l.peers);
  few : l.count ≤ 65536 * l.peer-index;
}
