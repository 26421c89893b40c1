use Rattle.std.proofs.Common.{◌≡◌, drop, map}
use Rattle.sp_config.specs.Keys.{row_of}
use Rattle.sp_config.specs.Walks.{is_key}
use Rattle.sp_config.proofs.walks.is_key.Given as goal

abbrev pub invariant-rows : goal.invariant-rows
invariant-rows l = is_key (map row_of l.rows) l.name ≡ is_key (map row_of (drop l.row-index l.rows)) l.name
