use Rattle.std.proofs.Common.{◌≡◌, ◌++◌, drop, map}
use Rattle.toml.specs.View.{items_view}
use Rattle.sp_config.specs.Good.{AreGood}
use Rattle.sp_config.specs.Keys.{edge_keys}
use Rattle.sp_config.specs.Readings.{edge_of}
use Rattle.sp_config.specs.Values.{tables_of}
use Rattle.sp_config.proofs.draft.edges_of.Given as goal

abbrev pub invariant-edges : goal.invariant-edges
invariant-edges l = record {
  good : AreGood edge_keys l.ranges (tables_of (items_view (drop l.value-index l.values)));
  done : l.edges.items ++ map edge_of (tables_of (items_view (drop l.value-index l.values))) ≡ map edge_of (tables_of (items_view l.values));
}
