use Rattle.std.proofs.Common.{◌≡◌, ◌++◌, drop, map}
use Rattle.toml.specs.View.{items_view}
use Rattle.sp_config.specs.Good.{AreGood}
use Rattle.sp_config.specs.Keys.{peer_keys}
use Rattle.sp_config.specs.Readings.{peer_of}
use Rattle.sp_config.specs.Values.{tables_of}
use Rattle.sp_config.proofs.config.peers_of.Given as goal

abbrev pub invariant-peers : goal.invariant-peers
invariant-peers l = record {
  good : AreGood peer_keys l.ranges (tables_of (items_view (drop l.value-index l.values)));
  done : l.peers.items ++ map peer_of (tables_of (items_view (drop l.value-index l.values))) ≡ map peer_of (tables_of (items_view l.values));
}
