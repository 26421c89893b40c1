use Rattle.std.proofs.Common.{◌≡◌, drop, map}
use Rattle.toml.specs.View.{table_view}
use Rattle.sp_config.specs.Keys.{row_of}
use Rattle.sp_config.specs.Walks.{missing_in}
use Rattle.sp_config.proofs.walks.missing_in.Given as goal

abbrev pub invariant-rows : goal.invariant-rows
invariant-rows l = missing_in (map row_of l.rows) (table_view l.table) ≡ missing_in (map row_of (drop l.row-index l.rows)) (table_view l.table)
