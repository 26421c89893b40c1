-- Pieces that were appended one after the other.
use Rattle.std.proofs.Common.{◌≡◌, ℕ, List, [], ◌∷◌, ◌++◌, append_assoc, append-nil, refl, sym, ◌∙◌}

-- the pieces, appended one by one
abbrev pub appended : List ℕ → List (List ℕ) → List ℕ
appended old [] = old
appended old (x ∷ xs) = appended (old ++ x) xs

-- the pieces, each followed by those after it
abbrev pub in_one : List (List ℕ) → List ℕ
in_one [] = []
in_one (x ∷ []) = x
in_one (x ∷ y ∷ ys) = x ++ in_one (y ∷ ys)

pub appended_in_one : (old : List ℕ) (pieces : List (List ℕ)) → appended old pieces ≡ old ++ in_one pieces
appended_in_one old [] = sym (append-nil old)
appended_in_one old (x ∷ []) = refl
appended_in_one old (x ∷ y ∷ ys) = appended_in_one (old ++ x) (y ∷ ys) ∙ append_assoc old x (in_one (y ∷ ys))
