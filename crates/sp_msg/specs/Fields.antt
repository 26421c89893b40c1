-- The fields of a format as a table: one spelling and one reading serve all tables.
use Rattle.std.specs.Prelude.{ℕ, ◌≤◌, ◌<◌, ◌^◌, ◌&&◌, nat_le, List, [], ◌∷◌, ◌++◌, Result, Ok, Err, if◌then◌else◌}
use Rattle.byteorder.specs.Endian.{big_bytes}
use Rattle.sp_base.specs.Reading.{number_at}
use Rattle.sp_base.specs.Refusals.{◌>>=◌, as_refusal}
use Rattle.sp_msg.specs.declared.refused.Field.{Field}
use Rattle.sp_msg.specs.declared.refused.MsgRefused.{MsgRefused}
use Rattle.sp_msg.specs.declared.refused.MsgRefused.TheVariants as refusals

-- one field, a number with its high byte first: either its name, its bytes, its least and its greatest value,
-- or its bytes alone, where each number of so many bytes is good
pub data Rule : Type 0 where
  ranged : Field → ℕ → ℕ → ℕ → Rule
  free : ℕ → Rule

-- how many bytes a field has
abbrev pub size_of : Rule → ℕ
size_of (ranged name size low high) = size
size_of (free size) = size

-- a number that the field may have
abbrev pub IsInRange : Rule → ℕ → Type 0
IsInRange (ranged name size low high) x = (low ≤ x) × (x ≤ high)
IsInRange (free size) x = x < 256 ^ size

-- a number for each field, in its range
abbrev pub AreInRange : List Rule → List ℕ → Type 0
AreInRange [] [] = Unit {0}
AreInRange (r ∷ rs) (x ∷ xs) = IsInRange r x × AreInRange rs xs
AreInRange [] (x ∷ xs) = ⊥
AreInRange (r ∷ rs) [] = ⊥

-- each greatest value has room in its bytes
abbrev pub HasRoom : Rule → Type 0
HasRoom (ranged name size low high) = high < 256 ^ size
HasRoom (free size) = Unit {0}

-- each field has room for the numbers of its range
abbrev pub HaveRoom : List Rule → Type 0
HaveRoom [] = Unit {0}
HaveRoom (r ∷ rs) = HasRoom r × HaveRoom rs

-- the bytes of the numbers, one field after the other
abbrev pub spelled : List Rule → List ℕ → List ℕ
spelled [] xs = []
spelled (r ∷ rs) [] = []
spelled (r ∷ rs) (x ∷ xs) = big_bytes (size_of r) x ++ spelled rs xs

-- the number of a field and the bytes after it, or why there is none
unfoldable pub field_at : Rule → List ℕ → Result (ℕ × List ℕ) MsgRefused
field_at (ranged name size low high) bytes =
    as_refusal refusals.Short (number_at size bytes) >>= λ x. if nat_le low x.0 && nat_le x.0 high then Ok x else Err (refusals.Range name)
field_at (free size) bytes = as_refusal refusals.Short (number_at size bytes)

-- the numbers of the fields and the bytes after them, or the first refusal from the left
abbrev pub fields_at : List Rule → List ℕ → Result (List ℕ × List ℕ) MsgRefused
fields_at [] bytes = Ok ([], bytes)
fields_at (r ∷ rs) bytes = field_at r bytes >>= λ x. fields_at rs x.1 >>= λ xs. Ok (x.0 ∷ xs.0, xs.1)
