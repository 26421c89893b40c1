use Rattle.std.proofs.Common.{◌≡◌, drop}
use Rattle.toml.specs.View.{items_view}
use Rattle.sp_config.specs.Keys.{keys_of}
use Rattle.sp_config.specs.Values.{tables_of}
use Rattle.sp_config.specs.Walks.{first_among}
use Rattle.sp_config.proofs.walks.first_among.Given as goal

abbrev pub invariant-values : goal.invariant-values
invariant-values l =
    first_among l.wrong (keys_of l.form) (tables_of (items_view l.value-items))
    ≡ first_among l.wrong (keys_of l.form) (tables_of (items_view (drop l.value-index l.value-items)))
