-- Rows in two parts: what is wrong is in the first, or else in the rest.
use Rattle.std.proofs.Common.{◌≡◌, ◌||◌, List, [], ◌∷◌, ◌++◌, ℕ, is_some, refl}
use Rattle.std.proofs.lemmas.Bool.{cases_Bool}
use Rattle.std.proofs.Common.{inl, inr}
use Rattle.sp_base.specs.Cursor.{or_else}
use Rattle.toml.specs.Data.{Members, get_member}
use Rattle.sp_config.specs.declared.keys.Ranges.{Ranges}
use Rattle.sp_config.specs.Keys.{Row}
use Rattle.sp_config.specs.Walks.{fits_if, missing_in, out_of_range_in}

pub missing_in-parts : (first rest : List Row) (ms : Members) → missing_in (first ++ rest) ms ≡ or_else (missing_in first ms) (missing_in rest ms)
missing_in-parts [] rest ms = refl
missing_in-parts (row ∷ first) rest ms = elim (cases_Bool (row.optional || is_some (get_member row.name ms))) [
  | inl there ↦ rw there (missing_in-parts first rest ms)
  | inr absent ↦ rw absent
]

pub out_of_range_in-parts : (ranges : Ranges) (first rest : List Row) (ms : Members)
    → out_of_range_in ranges (first ++ rest) ms ≡ or_else (out_of_range_in ranges first ms) (out_of_range_in ranges rest ms)
out_of_range_in-parts ranges [] rest ms = refl
out_of_range_in-parts ranges (row ∷ first) rest ms = elim (cases_Bool (fits_if ranges row.shape (get_member row.name ms))) [
  | inl fits ↦ rw fits (out_of_range_in-parts ranges first rest ms)
  | inr other ↦ rw other
]
