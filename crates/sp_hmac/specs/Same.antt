-- How two tags differ, so that no byte of them can be left out.
use Rattle.std.specs.Prelude.{ℕ, zero, suc, List, get_or, bit_or, bit_xor}

-- the `or` of the differences of the first n bytes: 0 exactly where these are the same
abbrev pub difference : List ℕ → List ℕ → ℕ → ℕ
difference xs ys zero = 0
difference xs ys (suc n) = bit_or (difference xs ys n) (bit_xor (get_or xs n 0) (get_or ys n 0))
