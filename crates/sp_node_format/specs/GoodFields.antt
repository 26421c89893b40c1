-- The test whether a message is of a format: its kind, and each field in its range.
use Rattle.std.specs.Prelude.{ℕ, ◌^◌, ◌&&◌, nat_le, nat_lt, Bool, true, false, List, [], ◌∷◌}
use Rattle.sp_msg.specs.Bodies.{fields_of, has_kind, numbers_of}
use Rattle.sp_msg.specs.Fields.{Rule, free, ranged}
use Rattle.sp_msg.specs.declared.body.Body.{Body}

-- whether the field may have the number
abbrev pub is_in_range : Rule → ℕ → Bool
is_in_range (ranged name size low high) x = nat_le low x && nat_le x high
is_in_range (free size) x = nat_lt x (256 ^ size)

-- whether there is a number for each field, in its range
abbrev pub are_in_range : List Rule → List ℕ → Bool
are_in_range [] [] = true
are_in_range (r ∷ rs) (x ∷ xs) = is_in_range r x && are_in_range rs xs
are_in_range [] (x ∷ xs) = false
are_in_range (r ∷ rs) [] = false

-- the format has messages of its kind, and each field is in its range
unfoldable pub has_good_fields : ℕ → Body → Bool
has_good_fields format body = has_kind format body && are_in_range (fields_of format body) (numbers_of body)
