-- The public key from the private starts, each run to its end.
use Rattle.std.proofs.Common.{◌≡◌, ℕ, ◌<◌, ◌≤◌, List, [], length, take, map, replicate, slice_index, refl, sym, ◌∙◌, ap, arith}
use Rattle.std.specs.List.{range_with_len}
use Rattle.std.proofs.lemmas.List.FromFn.{length-map-range_with_len}
use Rattle.sp_ots.specs.declared.param.OtsParam.{OtsParam}
use Rattle.sp_ots.specs.Parameters.{chain_count, last_step, for_each_chain}
use Rattle.sp_ots.specs.Digits.{digit}
use Rattle.sp_ots.specs.Chains.{chain_end, chain_ends}
use Rattle.sp_ots.specs.Keys.{private_start, key_of_ends, public_key}
use Rattle.sp_ots.specs.Signature.{signed_elements}
use Rattle.sp_ots.proofs.Parameters.{few_chains}
use Rattle.sp_ots.proofs.Ends.{ends_are, same_for_all, made_at}

-- chains that go from their private starts to a step of their own
pub ends_of_starts : (id : List ℕ) (q n m : ℕ) (seed to : List ℕ) (t : ℕ → ℕ) (starts ends : List (List ℕ)) → n ≤ 265 → m ≡ n
    → starts ≡ map (private_start id q seed) (range_with_len 0 m) → ((i : ℕ) → i < n → slice_index to i ≡ t i)
    → ends ≡ chain_ends id q (take n (replicate 265 0)) to starts
    → ends ≡ map (λ i. chain_end id q i 0 (t i) (private_start id q seed i)) (range_with_len 0 n)
ends_of_starts id q n m seed to t starts ends few e made ht run =
    let starts_are : starts ≡ map (private_start id q seed) (range_with_len 0 n) =
    made ∙ ap (λ (k : ℕ). map (private_start id q seed) (range_with_len 0 k)) e in
    let long : length starts ≡ n = ap length starts_are ∙ length-map-range_with_len (private_start id q seed) 0 n in
    run ∙ ends_are id q n (take n (replicate 265 0)) to starts (λ _. 0) t (private_start id q seed) long
    (λ i within. same_for_all n 265 0 i few within) ht (λ i within. made_at (private_start id q seed) starts n i [] starts_are within)

pub key_from_starts : (param : OtsParam) (id : List ℕ) (q : ℕ) (seed : List ℕ) (count last m : ℕ) (starts ends : List (List ℕ)) (key : List ℕ)
    → count ≡ chain_count param → last ≡ last_step param → m ≡ chain_count param → starts ≡ map (private_start id q seed) (range_with_len 0 m)
    → ends ≡ chain_ends id q (take count (replicate 265 0)) (take count (replicate 265 last)) starts → key ≡ key_of_ends id q ends
    → key ≡ public_key param id q seed
unfolding public_key
key_from_starts param id q seed count last m starts ends key count_is last_is m_is made run hashed =
    let few : count ≤ 265 = omega (arith, few_chains param) in
    let ends_are_all = ends_of_starts id q count m seed (take count (replicate 265 last)) (λ _. last) starts ends few (omega arith) made
    (λ i within. same_for_all count 265 last i few within) run in
    hashed ∙ ap (key_of_ends id q) (ends_are_all ∙ rw (last_is, count_is) refl)

-- the same starts, each run to its digit of a hash
pub elements_from_starts : (param : OtsParam) (id : List ℕ) (q : ℕ) (seed hash : List ℕ) (count m : ℕ) (to : List ℕ) (starts ends : List (List ℕ))
    → count ≡ chain_count param → m ≡ chain_count param → starts ≡ map (private_start id q seed) (range_with_len 0 m)
    → take (chain_count param) to ≡ for_each_chain param (digit param hash)
    → ends ≡ chain_ends id q (take count (replicate 265 0)) (take count to) starts
    → ends ≡ signed_elements param id q seed hash
unfolding signed_elements
elements_from_starts param id q seed hash count m to starts ends count_is m_is made digits run =
    let few : count ≤ 265 = omega (arith, few_chains param) in
    let to_is : take count to ≡ map (digit param hash) (range_with_len 0 count) =
    ap (λ (n : ℕ). take n to) count_is ∙ digits ∙ ap (λ (n : ℕ). map (digit param hash) (range_with_len 0 n)) (sym count_is) in
    let all = ends_of_starts id q count m seed (take count to) (digit param hash) starts ends few (omega arith) made
    (λ i within. made_at (digit param hash) (take count to) count i 0 to_is within) run in
    all ∙ rw count_is refl
