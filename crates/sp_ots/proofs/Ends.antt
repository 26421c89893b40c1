-- The ends of all chains, from what is known of each chain's steps and element.
use Rattle.std.proofs.Common.{◌≡◌, ℕ, zero, suc, ◌+◌, ◌-◌, ◌*◌, ◌<◌, ◌≤◌, List, [], length, take, drop, map, replicate, slice_index, slice_index_or, get_or}
use Rattle.std.proofs.Common.{refl, ◌∙◌, ap, arith}
use Rattle.std.specs.List.{range_with_len}
use Rattle.std.specs.Simd.{first_chunks}
use Rattle.std.proofs.lemmas.List.{get_or-take, get_or-replicate, drop-drop}
use Rattle.std.proofs.lemmas.List.FromFn.{get_or-map-range_with_len}
use Rattle.sp_ots.specs.Chains.{chain_end, chain_ends}
use Rattle.sp_ots.specs.Candidate.{element_of}

-- two functions that agree below n
pub map_same : {X : Type 0} (f g : ℕ → X) (a n : ℕ) → ((i : ℕ) → a ≤ i → i < a + n → f i ≡ g i) → map f (range_with_len a n) ≡ map g (range_with_len a n)
map_same f g a zero same = refl
map_same f g a (suc n) same =
    let more = map_same f g (a + 1) n (λ i low high. same i (omega arith) (omega arith)) in
    rw (same a (omega arith) (omega arith), more) refl

-- what each chain's steps and element are
pub ends_are : (id : List ℕ) (q n : ℕ) (from to : List ℕ) (elements : List (List ℕ)) (f t : ℕ → ℕ) (start : ℕ → List ℕ) → length elements ≡ n
    → ((i : ℕ) → i < n → slice_index from i ≡ f i) → ((i : ℕ) → i < n → slice_index to i ≡ t i) → ((i : ℕ) → i < n → slice_index_or elements i [] ≡ start i)
    → chain_ends id q from to elements ≡ map (λ i. chain_end id q i (f i) (t i) (start i)) (range_with_len 0 n)
unfolding chain_ends
ends_are id q n from to elements f t start long hf ht hs =
    let given : ℕ → List ℕ = λ i. chain_end id q i (slice_index from i) (slice_index to i) (slice_index_or elements i []) in
    ap (λ (k : ℕ). map given (range_with_len 0 k)) long
    ∙ map_same given (λ i. chain_end id q i (f i) (t i) (start i)) 0 n (λ i low high.
    let within : i < n = omega arith in
    rw (hf i within, ht i within, hs i within) refl)

-- the same number for each of the first n chains
pub same_for_all : (n m v i : ℕ) → n ≤ m → i < n → slice_index (take n (replicate m v)) i ≡ v
same_for_all n m v i few within = get_or-take n (replicate m v) i 0 within ∙ get_or-replicate m i v 0 (omega arith)

-- a list that is made by a function, at a place
pub made_at : {X : Type 0} (f : ℕ → X) (xs : List X) (n i : ℕ) (d : X) → xs ≡ map f (range_with_len 0 n) → i < n → get_or xs i d ≡ f i
made_at {X = X} f xs n i d made within = ap (λ (ys : List X). get_or ys i d) made ∙ get_or-map-range_with_len f 0 n i i d within (omega arith)

-- the pieces of 32 bytes after a signature's front
chunk_at : (n i : ℕ) (xs : List ℕ) → i < n → get_or (first_chunks 32 n xs) i [] ≡ take 32 (drop (32 * i) xs)
chunk_at zero i xs within = absurd (omega arith)
chunk_at (suc n) zero xs within = refl
chunk_at (suc n) (suc i) xs within =
    let place : 32 + 32 * i ≡ 32 * suc i = omega arith in
    chunk_at n i (drop 32 xs) (omega arith) ∙ ap (take 32) (drop-drop (32 * i) 32 xs ∙ ap (λ (k : ℕ). drop k xs) place)

pub element_at : (signature : List ℕ) (n i : ℕ) → i < n → slice_index_or (first_chunks 32 n (drop 36 signature)) i [] ≡ element_of signature i
element_at signature n i within =
    let size : 36 + 32 * i + 32 - (36 + 32 * i) ≡ 32 = omega arith in
    chunk_at n i (drop 36 signature) within ∙ ap (take 32) (drop-drop (32 * i) 36 signature) ∙ rw size refl

-- so many pieces are taken as are asked for
pub length-chunks : (n : ℕ) (xs : List ℕ) → length (first_chunks 32 n xs) ≡ n
length-chunks zero xs = refl
length-chunks (suc n) xs = ap suc (length-chunks n (drop 32 xs))
