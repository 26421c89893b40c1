use Rattle.std.proofs.Common.{◌≡◌, drop}
use Rattle.toml.specs.View.{items_view}
use Rattle.sp_config.specs.Values.{are_tables}
use Rattle.sp_config.proofs.values.are_tables.Given as goal

abbrev pub invariant-values : goal.invariant-values
invariant-values l = are_tables (items_view l.values) ≡ are_tables (items_view (drop l.value-index l.values))
