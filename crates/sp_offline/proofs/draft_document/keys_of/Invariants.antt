use Rattle.std.proofs.Common.{◌≡◌, ◌++◌, map, drop}
use Rattle.std.specs.Prelude.{All}
use Rattle.sp_topology.specs.Ranges.{IsKey}
use Rattle.sp_offline.specs.SignedDrafts.{node_key}
use Rattle.sp_offline.proofs.draft_document.keys_of.Given as goal

abbrev pub invariant-nodes : goal.invariant-nodes
invariant-nodes l = record {
  so_far : l.keys.items ++ map (node_key l.height) (drop l.node-index l.nodes) ≡ map (node_key l.height) l.nodes;
  good : All (λ n. IsKey l.height n.key) l.keys.items;
}
