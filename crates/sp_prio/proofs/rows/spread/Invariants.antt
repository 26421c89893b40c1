use Rattle.std.proofs.Common.{◌≡◌, ◌≤◌, ◌*◌, ◌-◌, length, drop, replicate}
use Rattle.std.specs.Prelude.{count_by}
use Rattle.std.specs.List.{flat_map}
use Rattle.sp_rules.specs.PrioPeer.{given, given_effects, goes_to}
use Rattle.sp_rules.specs.Told.{told}
use Rattle.sp_prio.proofs.MappedLemmas.{mapped}
use Rattle.sp_prio.proofs.rows.spread.Given as goal

abbrev pub invariant-peers : goal.invariant-peers
invariant-peers l = record {
  peers : l.peers.items ≡ mapped (given l.fn.kept l.came) l.place l.fn.peers.items;
  told : told l.out (flat_map (given_effects l.fn.kept l.came) (drop l.place l.fn.peers.items))
      ≡ told l.fn.out (flat_map (given_effects l.fn.kept l.came) l.fn.peers.items);
  alike : l.copies.items ≡ replicate (length l.copies.items) l.fn.kept;
  count : count_by (goes_to l.fn.kept.body l.came) (drop l.place l.fn.peers.items) ≤ length l.copies.items;
  room : 2 * (length l.fn.peers.items - l.place) ≤ l.out.room;
}
