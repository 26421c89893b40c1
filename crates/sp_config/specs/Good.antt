-- Values that are what their keys' rows want: such a table's values are read.
use Rattle.std.specs.Prelude.{◌≡◌, true, List, Option, Some, None}
use Rattle.std.specs.List.{AllByRecursion}
use Rattle.toml.specs.Data.{Data, Members, get_member}
use Rattle.sp_config.specs.declared.keys.Ranges.{Ranges}
use Rattle.sp_config.specs.Keys.{Row}
use Rattle.sp_config.specs.Values.{fits}

-- what stands at a row's key fits it
abbrev pub IsGoodAt : Ranges → Row → Option Data → Type 0
IsGoodAt ranges row None = row.optional ≡ true
IsGoodAt ranges row (Some d) = fits ranges row.shape d ≡ true

-- what stands at the key of each of these rows fits it
unfoldable pub IsGood : List Row → Ranges → Members → Type 0
IsGood rows ranges ms = AllByRecursion (λ row. IsGoodAt ranges row (get_member row.name ms)) rows

-- each of these tables is good
abbrev pub AreGood : List Row → Ranges → List Members → Type 0
AreGood rows ranges tables = AllByRecursion (IsGood rows ranges) tables
