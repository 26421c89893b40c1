use Rattle.std.proofs.Common.{◌≡◌, ◌++◌, drop, map}
use Rattle.toml.specs.View.{items_view}
use Rattle.sp_config.specs.Good.{AreGood}
use Rattle.sp_config.specs.Keys.{node_keys}
use Rattle.sp_config.specs.Readings.{node_of}
use Rattle.sp_config.specs.Values.{tables_of}
use Rattle.sp_config.proofs.draft.nodes_of.Given as goal

abbrev pub invariant-nodes : goal.invariant-nodes
invariant-nodes l = record {
  good : AreGood node_keys l.ranges (tables_of (items_view (drop l.value-index l.values)));
  done : l.nodes.items ++ map node_of (tables_of (items_view (drop l.value-index l.values))) ≡ map node_of (tables_of (items_view l.values));
}
