-- The value at a key of a table: as a number, as a text, as bytes, as the tables of an array; and whether it is what the key's row wants.
use Rattle.std.specs.Prelude.{ℕ, ℤ, pos, negsuc, nat_le, ◌==◌, ◌/◌, ◌%◌, ◌&&◌, ◌||◌, Bool, true, false, List, [], ◌∷◌, length, Option, Some}
use Rattle.std.specs.Prelude.{None, option_and_then, unwrap_or, Result, Ok, Err, slice_index, if◌then◌else◌}
use Rattle.std.specs.List.{list_all}
use Rattle.hex.specs.Hex.{decode_of}
use Rattle.toml.specs.Data.{Data, string, integer, array, table, Items, no_items, item, Members, get_member, as_array, as_integer, as_str}
use Rattle.sp_base.specs.Formats.{max_nodes}
use Rattle.sp_base.specs.declared.format.TheConstants.{FORMAT_1, FORMAT_2}
use Rattle.sp_config.specs.declared.keys.Ranges.{Ranges}
use Rattle.sp_config.specs.declared.keys.Shape.{Shape}
use Rattle.sp_config.specs.declared.keys.Shape.TheVariants.{Number, Height, Index, Id, Digits, AnyDigits, Tables}

-- ---- what a value may be

-- a lower-case hexadecimal digit (RFC 4648, section 8, in lower case)
abbrev pub is_digit : ℕ → Bool
is_digit c = (nat_le 48 c && nat_le c 57) || (nat_le 97 c && nat_le c 102)

-- the digits of whole bytes
abbrev pub are_digits : List ℕ → Bool
are_digits text = list_all is_digit text && (length text % 2 == 0)

-- whether an integer is in this range
abbrev pub is_within : ℕ → ℕ → ℤ → Bool
is_within low high (pos n) = nat_le low n && nat_le n high
is_within low high (negsuc n) = false

-- whether an integer is a height of trees
abbrev pub is_height : ℤ → Bool
is_height (pos n) = (n == 5) || (n == 10)
is_height (negsuc n) = false

-- whether a value is a table
abbrev pub is_table : Data → Bool
is_table (table ms) = true
is_table _ = false

-- whether all items of an array are tables
abbrev pub are_tables : Items → Bool
are_tables no_items = true
are_tables (item d ds) = is_table d && are_tables ds

-- the value is of this shape, where the rest of the text says this of its ranges
abbrev pub fits : Ranges → Shape → Data → Bool
fits ranges (Number low high) (integer z) = is_within low high z
fits ranges Height (integer z) = is_height z
fits ranges Index (integer z) = is_within 0 ranges.index z
fits ranges Id (integer z) = is_within 1 (max_nodes ranges.format) z
fits ranges (Digits n) (string text) = are_digits text && (length text / 2 == n)
fits ranges AnyDigits (string text) = are_digits text
fits ranges Tables (array ds) = are_tables ds
fits ranges _ _ = false

-- said of the ranges of a text that has neither an index nor an id
abbrev pub nothing_said : Ranges
nothing_said = record { format = FORMAT_1; index = 0 }

-- ---- what it says

-- the format of a document in digits: 2 exactly where these are digits of whole bytes and those of its fifth byte are 02, and else 1
abbrev pub format_said : List ℕ → ℕ
format_said text = if are_digits text && (slice_index text 8 == 48) && (slice_index text 9 == 50) then FORMAT_2 else FORMAT_1

-- an integer as a natural number; below 0 it is 0
abbrev pub natural : ℤ → ℕ
natural (pos n) = n
natural (negsuc n) = 0

-- the natural number that is there; without one it is 0
abbrev pub number_of : Option ℤ → ℕ
number_of None = 0
number_of (Some z) = natural z

-- the number at a key
abbrev pub number_at : List ℕ → Members → ℕ
number_at key ms = number_of (option_and_then as_integer (get_member key ms))

-- this number where the key is absent
abbrev pub number_or : ℕ → Option Data → ℕ
number_or absent None = absent
number_or absent (Some d) = number_of (as_integer d)

-- the text at a key
abbrev pub text_at : List ℕ → Members → List ℕ
text_at key ms = unwrap_or (option_and_then as_str (get_member key ms)) []

-- the bytes that were read, or none
abbrev pub bytes_or_none : {E : Type 0} → Result (List ℕ) E → List ℕ
bytes_or_none (Ok bytes) = bytes
bytes_or_none (Err e) = []

-- the bytes that hexadecimal digits say. Another text says no bytes
abbrev pub bytes_of : List ℕ → List ℕ
bytes_of text = bytes_or_none (decode_of text)

-- the bytes whose digits stand at a key
abbrev pub bytes_at : List ℕ → Members → List ℕ
bytes_at key ms = bytes_of (text_at key ms)

-- the items of the array at a key
abbrev pub items_at : List ℕ → Members → Items
items_at key ms = unwrap_or (option_and_then as_array (get_member key ms)) no_items

-- the tables among the values of an array, in their order
abbrev pub tables_of : Items → List Members
tables_of no_items = []
tables_of (item (table ms) ds) = ms ∷ tables_of ds
tables_of (item _ ds) = tables_of ds

-- the tables of the array at a key
abbrev pub tables_at : List ℕ → Members → List Members
tables_at key ms = tables_of (items_at key ms)
