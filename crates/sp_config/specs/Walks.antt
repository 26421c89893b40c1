-- The first key at fault: three walks over the rows of keys, at the top first, and then table by table.
use Rattle.std.specs.Prelude.{ℕ, nat_eq, ◌||◌, Bool, true, List, [], ◌∷◌, Option, Some, None, is_some, if◌then◌else◌}
use Rattle.std.specs.List.{list_any}
use Rattle.std.specs.Cmp.Lexicographic.{pointwise}
use Rattle.sp_base.specs.Cursor.{or_else}
use Rattle.toml.specs.Data.{Data, Members, no_members, member, get_member}
use Rattle.sp_config.specs.declared.keys.Form.{Form}
use Rattle.sp_config.specs.declared.keys.Ranges.{Ranges}
use Rattle.sp_config.specs.declared.keys.Shape.{Shape}
use Rattle.sp_config.specs.declared.walks.Wrong.{Wrong}
use Rattle.sp_config.specs.declared.walks.Wrong.TheVariants.{Unknown, Missing, Range}
use Rattle.sp_config.specs.Keys.{Row, arrays_of, keys_of}
use Rattle.sp_config.specs.Values.{fits, tables_at}

-- ---- one table

abbrev pub is_key : List Row → List ℕ → Bool
is_key rows name = list_any (λ row. pointwise nat_eq row.name name) rows

-- the first key, by its bytes, that isn't in these rows
abbrev pub unknown_in : List Row → Members → Option (List ℕ)
unknown_in rows no_members = None
unknown_in rows (member name d ms) = if is_key rows name then unknown_in rows ms else Some name

-- the first row whose key must be there and isn't
abbrev pub missing_in : List Row → Members → Option (List ℕ)
missing_in [] ms = None
missing_in (row ∷ rows) ms = if row.optional || is_some (get_member row.name ms) then missing_in rows ms else Some row.name

-- whether a value fits its shape, if it is there
abbrev pub fits_if : Ranges → Shape → Option Data → Bool
fits_if ranges shape None = true
fits_if ranges shape (Some d) = fits ranges shape d

-- the first row whose key is there, with a value that isn't of its shape
abbrev pub out_of_range_in : Ranges → List Row → Members → Option (List ℕ)
out_of_range_in ranges [] ms = None
out_of_range_in ranges (row ∷ rows) ms =
    if fits_if ranges row.shape (get_member row.name ms) then out_of_range_in ranges rows ms else Some row.name

-- the first key that is wrong in this way
abbrev pub first_in : Wrong → List Row → Members → Option (List ℕ)
first_in Unknown rows ms = unknown_in rows ms
first_in Missing rows ms = missing_in rows ms
first_in (Range ranges) rows ms = out_of_range_in ranges rows ms

-- ---- a table and the tables in its arrays

-- these tables, one after the other
abbrev pub first_among : Wrong → List Row → List Members → Option (List ℕ)
first_among wrong rows [] = None
first_among wrong rows (ms ∷ tables) = or_else (first_in wrong rows ms) (first_among wrong rows tables)

-- the tables of each of these arrays. Values that are no tables aren't looked into
abbrev pub first_in_arrays : Wrong → List (List ℕ × Form) → Members → Option (List ℕ)
first_in_arrays wrong [] ms = None
first_in_arrays wrong (a ∷ arrays) ms = or_else (first_among wrong (keys_of a.1) (tables_at a.0 ms)) (first_in_arrays wrong arrays ms)

-- the first key at fault in a table, and then in the tables of its arrays
abbrev pub first_wrong : Wrong → Form → Members → Option (List ℕ)
first_wrong wrong form ms = or_else (first_in wrong (keys_of form) ms) (first_in_arrays wrong (arrays_of form) ms)
