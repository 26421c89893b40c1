-- Many blocks at once: a vector holds a word of each block b of bs, so it is `map f bs`, where f b is that word.
use Rattle.std.specs.Prelude.{ℕ, List, [], ◌∷◌, map, slice_index}

-- how many blocks are hashed at once
abbrev pub lanes : ℕ
lanes = 4

-- the eight words that f gives of each block, a vector for each word
abbrev pub columns : (List ℕ → List ℕ) → List (List ℕ) → List (List ℕ)
columns f bs =
    map (λ b. slice_index (f b) 0) bs ∷ map (λ b. slice_index (f b) 1) bs
    ∷ map (λ b. slice_index (f b) 2) bs ∷ map (λ b. slice_index (f b) 3) bs
    ∷ map (λ b. slice_index (f b) 4) bs ∷ map (λ b. slice_index (f b) 5) bs
    ∷ map (λ b. slice_index (f b) 6) bs ∷ map (λ b. slice_index (f b) 7) bs ∷ []
