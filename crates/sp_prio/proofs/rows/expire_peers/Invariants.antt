use Rattle.std.proofs.Common.{◌≡◌, ◌≤◌, length, drop}
use Rattle.std.specs.Prelude.{sum_by}
use Rattle.std.specs.List.{flat_map}
use Rattle.sp_rules.specs.PrioPeer.{expired, expired_effects}
use Rattle.sp_rules.specs.Store.{expired_entries}
use Rattle.sp_rules.specs.Told.{told}
use Rattle.sp_prio.proofs.MappedLemmas.{mapped}
use Rattle.sp_prio.proofs.rows.expire_peers.Given as goal

abbrev pub invariant-peers : goal.invariant-peers
invariant-peers l = record {
  peers : l.peers.items ≡ mapped (λ q. expired q l.now) l.place l.fn.peers.items;
  told : told l.out (flat_map (λ q. expired_effects q.peer q.store l.now) (drop l.place l.fn.peers.items))
      ≡ told l.fn.out (flat_map (λ q. expired_effects q.peer q.store l.now) l.fn.peers.items);
  room : sum_by (λ q. length (expired_entries q.store l.now)) (drop l.place l.fn.peers.items) ≤ l.out.room;
}
