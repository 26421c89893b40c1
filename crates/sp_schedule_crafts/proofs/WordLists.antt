-- Lists of four, of five and of seven words, by their places.
use Rattle.std.proofs.Common.{ℕ, ◌<◌, ◌≤◌, List, [], ◌∷◌, length, map, arith, Bor}
use Rattle.std.specs.Prelude.{slice_index_or}

-- what four words say stands at the four places
pub four : (P : List (List ℕ) → Type 0) (words : List (Bor (List ℕ))) (d : Bor (List ℕ)) → 4 ≤ length words → length words < 5
    → P ((slice_index_or words 0 d).now ∷ (slice_index_or words 1 d).now ∷ (slice_index_or words 2 d).now ∷ (slice_index_or words 3 d).now ∷ [])
    → P (map (λ w. w.now) words)
four P (x0 ∷ x1 ∷ x2 ∷ x3 ∷ []) d low high p = p
four P [] d low high p = absurd (omega arith)
four P (x0 ∷ []) d low high p = absurd (omega arith)
four P (x0 ∷ x1 ∷ []) d low high p = absurd (omega arith)
four P (x0 ∷ x1 ∷ x2 ∷ []) d low high p = absurd (omega arith)
four P (x0 ∷ x1 ∷ x2 ∷ x3 ∷ y ∷ more) d low high p = absurd (omega arith)

-- what five words say stands at the five places
pub five : (P : List (List ℕ) → Type 0) (words : List (Bor (List ℕ))) (d : Bor (List ℕ)) → 5 ≤ length words → length words < 6
    → P ((slice_index_or words 0 d).now ∷ (slice_index_or words 1 d).now ∷ (slice_index_or words 2 d).now ∷ (slice_index_or words 3 d).now
    ∷ (slice_index_or words 4 d).now ∷ [])
    → P (map (λ w. w.now) words)
five P (x0 ∷ x1 ∷ x2 ∷ x3 ∷ x4 ∷ []) d low high p = p
five P [] d low high p = absurd (omega arith)
five P (x0 ∷ []) d low high p = absurd (omega arith)
five P (x0 ∷ x1 ∷ []) d low high p = absurd (omega arith)
five P (x0 ∷ x1 ∷ x2 ∷ []) d low high p = absurd (omega arith)
five P (x0 ∷ x1 ∷ x2 ∷ x3 ∷ []) d low high p = absurd (omega arith)
five P (x0 ∷ x1 ∷ x2 ∷ x3 ∷ x4 ∷ y ∷ more) d low high p = absurd (omega arith)

-- what seven words say stands at the seven places
pub seven : (P : List (List ℕ) → Type 0) (words : List (Bor (List ℕ))) (d : Bor (List ℕ)) → 7 ≤ length words → length words < 8
    → P ((slice_index_or words 0 d).now ∷ (slice_index_or words 1 d).now ∷ (slice_index_or words 2 d).now ∷ (slice_index_or words 3 d).now
    ∷ (slice_index_or words 4 d).now ∷ (slice_index_or words 5 d).now ∷ (slice_index_or words 6 d).now ∷ [])
    → P (map (λ w. w.now) words)
seven P (x0 ∷ x1 ∷ x2 ∷ x3 ∷ x4 ∷ x5 ∷ x6 ∷ []) d low high p = p
seven P [] d low high p = absurd (omega arith)
seven P (x0 ∷ []) d low high p = absurd (omega arith)
seven P (x0 ∷ x1 ∷ []) d low high p = absurd (omega arith)
seven P (x0 ∷ x1 ∷ x2 ∷ []) d low high p = absurd (omega arith)
seven P (x0 ∷ x1 ∷ x2 ∷ x3 ∷ []) d low high p = absurd (omega arith)
seven P (x0 ∷ x1 ∷ x2 ∷ x3 ∷ x4 ∷ []) d low high p = absurd (omega arith)
seven P (x0 ∷ x1 ∷ x2 ∷ x3 ∷ x4 ∷ x5 ∷ []) d low high p = absurd (omega arith)
seven P (x0 ∷ x1 ∷ x2 ∷ x3 ∷ x4 ∷ x5 ∷ x6 ∷ y ∷ more) d low high p = absurd (omega arith)
