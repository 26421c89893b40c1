use Rattle.std.proofs.Common.{◌≡◌, ◌≤◌, length, drop}
use Rattle.std.specs.Prelude.{sum_by}
use Rattle.std.specs.List.{flat_map}
use Rattle.sp_rules.specs.PrioPeer.{closed, closed_effects}
use Rattle.sp_rules.specs.Told.{told}
use Rattle.sp_prio.proofs.MappedLemmas.{mapped}
use Rattle.sp_prio.proofs.rows.close_peers.Given as goal

abbrev pub invariant-peers : goal.invariant-peers
invariant-peers l = record {
  peers : l.peers.items ≡ mapped (closed l.weights l.removed) l.place l.fn.peers.items;
  told : told l.out (flat_map (closed_effects l.weights l.removed) (drop l.place l.fn.peers.items))
      ≡ told l.fn.out (flat_map (closed_effects l.weights l.removed) l.fn.peers.items);
  room : sum_by (λ q. length q.store.entries) (drop l.place l.fn.peers.items) ≤ l.out.room;
}
