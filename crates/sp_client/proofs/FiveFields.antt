-- A list of five, by its places.
use Rattle.std.proofs.Common.{ℕ, ◌<◌, ◌≤◌, List, [], ◌∷◌, length, map, arith, Bor}
use Rattle.std.specs.Prelude.{slice_index_or}

-- what five words say stands at the five places
pub five : (P : List (List ℕ) → Type 0) (words : List (Bor (List ℕ))) (d : Bor (List ℕ)) → 5 ≤ length words → length words < 6
    → P ((slice_index_or words 0 d).now ∷ (slice_index_or words 1 d).now ∷ (slice_index_or words 2 d).now ∷ (slice_index_or words 3 d).now
    ∷ (slice_index_or words 4 d).now ∷ [])
    → P (map (λ w. w.now) words)
five P (a ∷ b ∷ c ∷ d ∷ e ∷ []) z low high p = p
five P [] z low high p = absurd (omega arith)
five P (a ∷ []) z low high p = absurd (omega arith)
five P (a ∷ b ∷ []) z low high p = absurd (omega arith)
five P (a ∷ b ∷ c ∷ []) z low high p = absurd (omega arith)
five P (a ∷ b ∷ c ∷ d ∷ []) z low high p = absurd (omega arith)
five P (a ∷ b ∷ c ∷ d ∷ e ∷ f ∷ more) z low high p = absurd (omega arith)
