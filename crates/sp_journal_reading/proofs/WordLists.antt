-- Lists of five and six words, by their places.
use Rattle.std.proofs.Common.{ℕ, ◌<◌, ◌≤◌, List, [], ◌∷◌, length, map, arith, Bor}
use Rattle.std.specs.Prelude.{slice_index_or}

-- what five words say stands at the five places
pub five : (P : List (List ℕ) → Type 0) (words : List (Bor (List ℕ))) (d : Bor (List ℕ)) → 5 ≤ length words → length words < 6
    → P ((slice_index_or words 0 d).now ∷ (slice_index_or words 1 d).now ∷ (slice_index_or words 2 d).now ∷ (slice_index_or words 3 d).now
    ∷ (slice_index_or words 4 d).now ∷ [])
    → P (map (λ w. w.now) words)
five P (x0 ∷ x1 ∷ x2 ∷ x3 ∷ x4 ∷ []) d low high p = p
five P [] d low high p = absurd (omega arith)
five P (x0 ∷ []) d low high p = absurd (omega arith)
five P (x0 ∷ x1 ∷ []) d low high p = absurd (omega arith)
five P (x0 ∷ x1 ∷ x2 ∷ []) d low high p = absurd (omega arith)
five P (x0 ∷ x1 ∷ x2 ∷ x3 ∷ []) d low high p = absurd (omega arith)
five P (x0 ∷ x1 ∷ x2 ∷ x3 ∷ x4 ∷ y ∷ more) d low high p = absurd (omega arith)

-- what six words say stands at the six places
pub six : (P : List (List ℕ) → Type 0) (words : List (Bor (List ℕ))) (d : Bor (List ℕ)) → 6 ≤ length words → length words < 7
    → P ((slice_index_or words 0 d).now ∷ (slice_index_or words 1 d).now ∷ (slice_index_or words 2 d).now ∷ (slice_index_or words 3 d).now
    ∷ (slice_index_or words 4 d).now ∷ (slice_index_or words 5 d).now ∷ [])
    → P (map (λ w. w.now) words)
six P (x0 ∷ x1 ∷ x2 ∷ x3 ∷ x4 ∷ x5 ∷ []) d low high p = p
six P [] d low high p = absurd (omega arith)
six P (x0 ∷ []) d low high p = absurd (omega arith)
six P (x0 ∷ x1 ∷ []) d low high p = absurd (omega arith)
six P (x0 ∷ x1 ∷ x2 ∷ []) d low high p = absurd (omega arith)
six P (x0 ∷ x1 ∷ x2 ∷ x3 ∷ []) d low high p = absurd (omega arith)
six P (x0 ∷ x1 ∷ x2 ∷ x3 ∷ x4 ∷ []) d low high p = absurd (omega arith)
six P (x0 ∷ x1 ∷ x2 ∷ x3 ∷ x4 ∷ x5 ∷ y ∷ more) d low high p = absurd (omega arith)
