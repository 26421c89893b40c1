-- A list of which the first elements are changed, one after another.
use Rattle.std.proofs.Common.{◌≡◌, ◌≤◌, ◌<◌, ℕ, zero, suc, ◌+◌, List, [], ◌∷◌, length, map, set, get_or, refl, sym, ap, subst, ◌∙◌, arith}
use Rattle.std.specs.Prelude.{All}
use Rattle.std.proofs.lemmas.List.Elements.{All-get_or}

-- the list with its first i elements changed
abbrev pub mapped : {X : Type 0} → (X → X) → ℕ → List X → List X
mapped f zero xs = xs
mapped f (suc i) [] = []
mapped f (suc i) (x ∷ xs) = f x ∷ mapped f i xs

pub length-mapped : {X : Type 0} (f : X → X) (i : ℕ) (xs : List X) → length (mapped f i xs) ≡ length xs
length-mapped f zero xs = refl
length-mapped f (suc i) [] = refl
length-mapped f (suc i) (x ∷ xs) = omega (arith, length-mapped f i xs)

-- the next one is as it was
pub mapped_at : {X : Type 0} (f : X → X) (i : ℕ) (xs : List X) (d : X) → get_or (mapped f i xs) i d ≡ get_or xs i d
mapped_at f zero xs d = refl
mapped_at f (suc i) [] d = refl
mapped_at f (suc i) (x ∷ xs) d = mapped_at f i xs d

set_next : {X : Type 0} (f : X → X) (i : ℕ) (xs : List X) (d : X) → i < length xs → set (mapped f i xs) i (f (get_or xs i d)) ≡ mapped f (suc i) xs
set_next f i [] d inside = absurd (omega arith)
set_next f zero (x ∷ xs) d inside = refl
set_next {X} f (suc i) (x ∷ xs) d inside = ap (λ (rest : List X). f x ∷ rest) (set_next f i xs d (omega arith))

-- the next one is changed
pub mapped_set : {X : Type 0} (f : X → X) (i : ℕ) (xs ys : List X) (x y : X) → ys ≡ mapped f i xs → i < length xs → x ≡ get_or ys i x → y ≡ f x →
    set ys i y ≡ mapped f (i + 1) xs
mapped_set {X} f i xs ys x y so_far inside is new =
    let same : x ≡ get_or xs i x = is ∙ ap (λ (zs : List X). get_or zs i x) so_far ∙ mapped_at f i xs x in
    ap (λ (z : X). set ys i z) (new ∙ ap f same) ∙ ap (λ (zs : List X). set zs i (f (get_or xs i x))) so_far ∙ set_next f i xs x inside
    ∙ ap (λ (n : ℕ). mapped f n xs) (let e : suc i ≡ i + 1 = omega arith in e)

-- all are changed
pub mapped_all : {X : Type 0} (f : X → X) (i : ℕ) (xs : List X) → length xs ≤ i → mapped f i xs ≡ map f xs
mapped_all f zero [] all = refl
mapped_all f zero (x ∷ xs) all = absurd (omega arith)
mapped_all f (suc i) [] all = refl
mapped_all {X} f (suc i) (x ∷ xs) all = ap (λ (rest : List X). f x ∷ rest) (mapped_all f i xs (omega arith))

-- what is read next is the old one
pub mapped_read : {X : Type 0} (f : X → X) (i : ℕ) (xs ys : List X) (x : X) → ys ≡ mapped f i xs → x ≡ get_or ys i x → x ≡ get_or xs i x
mapped_read {X} f i xs ys x so_far is = is ∙ ap (λ (zs : List X). get_or zs i x) so_far ∙ mapped_at f i xs x

pub mapped_holds : {X : Type 0} (P : X → Type 0) (f : X → X) (i : ℕ) (xs ys : List X) (x : X) → ys ≡ mapped f i xs → x ≡ get_or ys i x →
    i < length xs → All P xs → P x
mapped_holds P f i xs ys x so_far is inside all = subst P (sym (mapped_read f i xs ys x so_far is)) (All-get_or P xs i x inside all)
