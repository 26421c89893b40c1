-- Service in turn: which of the active places comes after the one that was served last.
use Rattle.std.specs.Prelude.{ℕ, ◌+◌, Bool, List, Option, Some, None, drop, position, option_map}

-- the least active place from this one on
abbrev pub first_active_from : ℕ → List Bool → Option ℕ
first_active_from place active = option_map (λ skipped. place + skipped) (position (λ is_active. is_active) (drop place active))

-- the first choice, or else the second
abbrev pub or_else : {X : Type 0} → Option X → Option X → Option X
or_else None second = second
or_else (Some x) second = Some x

-- the cyclic successor of the last place among the active ones
abbrev pub next_after : Option ℕ → List Bool → Option ℕ
next_after None active = first_active_from 0 active
next_after (Some last) active = or_else (first_active_from (last + 1) active) (first_active_from 0 active)
