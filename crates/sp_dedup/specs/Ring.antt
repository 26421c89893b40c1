-- A ring of numbers: each place holds the last number that was marked with that remainder.
use Rattle.std.specs.Prelude.{ℕ, ◌≡◌, ◌==◌, ◌≤◌, ◌+◌, ◌-◌, ◌%◌, ◌⊎◌, List, length, filter, slice_index_or}
use Rattle.std.specs.List.{range_with_len}
use Rattle.sp_rules.specs.declared.window.TheConstants.{WINDOW}

-- what the place of a number holds
abbrev pub held_for : List ℕ → ℕ → ℕ
held_for ring x = slice_index_or ring (x % WINDOW) 0

-- the last numbers up to this one, of which a window knows each one
abbrev pub last_numbers : ℕ → List ℕ
last_numbers top = range_with_len (top + 1 - WINDOW) (top + 1 - (top + 1 - WINDOW))

-- the numbers that are marked, ascending
abbrev pub marked_in : ℕ → List ℕ → List ℕ
marked_in top ring = filter (λ x. held_for ring x == x) (last_numbers top)

-- no number is marked above the greatest, and the greatest is marked unless none is
pub record IsRing (top : ℕ) (ring : List ℕ) : Type 0 where
  pub places : length ring ≡ WINDOW
  pub below : (x : ℕ) → held_for ring x ≡ x → x ≤ top
  pub greatest : (held_for ring top ≡ top) ⊎ ((top ≡ 0) × ((x : ℕ) → held_for ring x ≡ x → ⊥))
