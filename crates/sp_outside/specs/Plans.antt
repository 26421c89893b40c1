-- Which calls of an object fail by its plan: their numbers, counted from 0.
use Rattle.std.specs.Prelude.{ℕ, ◌==◌, Bool, List}
use Rattle.std.specs.List.{list_any}

abbrev pub is_planned : List ℕ → ℕ → Bool
is_planned failing call = list_any (λ number. number == call) failing
