use Rattle.std.proofs.Common.{◌≡◌, ◌++◌, map}
use Rattle.toml.specs.View.{members_view, table_view}
use Rattle.sp_config.specs.Keys.{row_of}
use Rattle.sp_config.specs.Walks.{unknown_in}
use Rattle.sp_config.proofs.walks.unknown_in.Given as goal

abbrev pub invariant-keys : goal.invariant-keys
invariant-keys l = record {
  can : (goal.iterator-keys).can_next l.key-iterator;
  finite : (goal.iterator-keys).is_finite l.key-iterator;
  same : unknown_in (map row_of l.first ++ map row_of l.rest) (members_view l.key-iterator)
      ≡ unknown_in (map row_of l.first ++ map row_of l.rest) (table_view l.table);
}
