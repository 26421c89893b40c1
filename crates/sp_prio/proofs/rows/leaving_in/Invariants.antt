use Rattle.std.proofs.Common.{◌≡◌, ◌≤◌, ◌*◌, length, take}
use Rattle.std.specs.Prelude.{sum_by}
use Rattle.sp_rules.specs.Store.{leavers}
use Rattle.sp_store.specs.Leaving.{leaves}
use Rattle.sp_prio.proofs.rows.leaving_in.Given as goal

abbrev pub invariant-peers : goal.invariant-peers
invariant-peers l = record {
  count : l.count ≡ sum_by (λ q. length (leavers (leaves l.leaving) q.store)) (take l.peer-index l.peers);
  few : l.count ≤ 65536 * l.peer-index;
}
