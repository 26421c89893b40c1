use Rattle.std.proofs.Common.{◌≡◌, drop, map}
use Rattle.toml.specs.View.{table_view}
use Rattle.sp_config.specs.Keys.{row_of}
use Rattle.sp_config.specs.Walks.{out_of_range_in}
use Rattle.sp_config.proofs.walks.out_of_range_in.Given as goal

abbrev pub invariant-rows : goal.invariant-rows
invariant-rows l =
    out_of_range_in l.ranges (map row_of l.rows) (table_view l.table) ≡ out_of_range_in l.ranges (map row_of (drop l.row-index l.rows)) (table_view l.table)
