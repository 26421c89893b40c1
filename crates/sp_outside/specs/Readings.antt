-- The readings of a clock in memory.
use Rattle.std.specs.Prelude.{ℕ, zero, suc, ◌-◌, ◌^◌, nat_lt, List, [], ◌∷◌, ◌++◌, get_or, Option, None, Some, if◌then◌else◌}

-- the first so many readings: those that are planned, and then the last one for ever
abbrev pub readings_upto : List ℕ → ℕ → ℕ → List ℕ
readings_upto planned last zero = []
readings_upto planned last (suc count) = readings_upto planned last count ++ get_or planned count last ∷ []

-- what is told after so many calls, as long as their number has room
abbrev pub readings_told : List ℕ → ℕ → ℕ → Option (List ℕ)
readings_told planned last count = if nat_lt count (2 ^ 64 - 1) then Some (readings_upto planned last count) else None
