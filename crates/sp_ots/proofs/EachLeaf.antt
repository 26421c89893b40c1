-- What holds of each leaf's message or element, in a list with one for each leaf.
use Rattle.std.proofs.Common.{◌≡◌, ◌≢◌, ℕ, ◌+◌, ◌*◌, ◌<◌, ◌≤◌, List, [], ◌∷◌, ◌++◌, length, take, map, set, get_or, refl, sym, ◌∙◌, ap, arith, inl, inr}
use Rattle.std.specs.List.{concat, range_with_len}
use Rattle.std.proofs.lemmas.Bool.{cases_lt}
use Rattle.std.proofs.lemmas.List.{append-nil, append_assoc, ext_get_or, get_or-map, get_or-set_other, get_or-set_same, length-map}
use Rattle.std.proofs.lemmas.List.Folds.{concat-append}
use Rattle.std.proofs.lemmas.List.FromFn.{get_or-map-range_with_len, length-map-range_with_len, map-range_with_len_more}
use Rattle.sha2.specs.Sha256.{sha256}
use Rattle.sp_ots.specs.Lanes.{lanes}
use Rattle.sp_ots.specs.declared.param.OtsParam.{OtsParam}
use Rattle.sp_ots.specs.Parameters.{chain_count, last_step}
use Rattle.sp_ots.specs.Strings.{u8str}
use Rattle.sp_ots.specs.Chains.{next_element}
use Rattle.sp_ots.specs.Keys.{key_of_ends, private_start, public_key}
use Rattle.sp_ots.specs.Leaves.{end_of_start, ends_behind, front_of}
use Rattle.sp_ots.proofs.Steps.{begun, chain_more, chain_none}

-- one more of them
pub each_more : (P : ℕ → List ℕ → Type 0) (xs : List (List ℕ)) (k : ℕ) (x : List ℕ) → k < length xs → ((m : ℕ) → m < k → P m (get_or xs m [])) → P k x
    → (m : ℕ) → m < k + 1 → P m (get_or (set xs k x) m [])
each_more P xs k x within before here m upto = elim (cases_lt m k) [
  | inl early ↦
      let ne : m ≢ k = omega arith in
      rw (get_or-set_other xs k m x [] ne) (before m early)
  | inr last ↦
      let e : m ≡ k = omega arith in
      rw (e, get_or-set_same xs k x [] within) here
]

-- those after stay
pub rest_same : (was xs : List (List ℕ)) (k : ℕ) (x : List ℕ) → ((m : ℕ) → k ≤ m → get_or xs m [] ≡ get_or was m [])
    → (m : ℕ) → k + 1 ≤ m → get_or (set xs k x) m [] ≡ get_or was m []
rest_same was xs k x before m after = get_or-set_other xs k m x [] (omega arith) ∙ before m (omega arith)

-- the private starts are the digests of their messages
pub first_elements : (id : List ℕ) (q i : ℕ) (seed message digest : List ℕ) → length id ≡ 16 → message ≡ front_of id q i ++ u8str 0xff ++ seed
    → digest ≡ sha256 message → (take 22 message ≡ front_of id q i) × (digest ≡ end_of_start id q i 0 seed)
unfolding private_start
first_elements id q i seed message digest long laid hashed = (
  (begun id q i 0xff seed message long laid).0,
  hashed ∙ ap sha256 laid ∙ sym (chain_none id q i 0 (private_start id q seed i)),
)

-- and the elements of the next step those of the messages that are renewed
pub next_elements : (id : List ℕ) (q i j : ℕ) (seed was message element digest : List ℕ) → length id ≡ 16
    → take 22 was ≡ front_of id q i → element ≡ end_of_start id q i j seed → message ≡ take 22 was ++ u8str j ++ element
    → digest ≡ sha256 message → (take 22 message ≡ front_of id q i) × (digest ≡ end_of_start id q i (j + 1) seed)
unfolding next_element
next_elements id q i j seed was message element digest long front is laid hashed =
    let whole : message ≡ front_of id q i ++ u8str j ++ end_of_start id q i j seed = laid ∙ (λ x. front x ++ u8str j ++ is x) in (
      (begun id q i j (end_of_start id q i j seed) message long whole).0,
      hashed ∙ ap sha256 whole ∙ sym (chain_more id q i 0 j (private_start id q seed i) (omega arith)),
    )

-- one more end behind those that stand
pub ends_more : (id : List ℕ) (q last : ℕ) (seed : List ℕ) (i : ℕ)
    → ends_behind id q last seed i ++ end_of_start id q i last seed ≡ ends_behind id q last seed (i + 1)
ends_more id q last seed i =
    let f : ℕ → List ℕ = λ n. end_of_start id q n last seed in
    let all = map f (range_with_len 0 i) in
    append_assoc (front_of id q 0x8080) (concat all) (f i)
    ∙ ap (λ (xs : List ℕ). front_of id q 0x8080 ++ xs)
    (sym (concat-append all (f i ∷ []) ∙ ap (λ (xs : List ℕ). concat all ++ xs) (append-nil (f i)))
    ∙ ap concat (sym (map-range_with_len_more f 0 i i (omega arith))))

-- a digest of one of them
pub digest_at : (messages digests : List (List ℕ)) (k : ℕ) → k < length messages → digests ≡ map sha256 messages
    → get_or digests k [] ≡ sha256 (get_or messages k [])
digest_at messages digests k within made = ap (λ (ds : List (List ℕ)). get_or ds k []) made ∙ get_or-map sha256 messages k [] [] within

-- the hash over all ends is the public key
key_behind : (param : OtsParam) (id : List ℕ) (q n last : ℕ) (seed : List ℕ) → n ≡ chain_count param → last ≡ last_step param
    → sha256 (ends_behind id q last seed n) ≡ public_key param id q seed
unfolding public_key key_of_ends
key_behind param id q n last seed count_is last_is = rw (count_is, last_is) refl

-- the public keys of all leaves, from their messages
pub keys_of_messages : (param : OtsParam) (id : List ℕ) (q : ℕ) (seed : List ℕ) (n last len : ℕ) (messages digests : List (List ℕ))
    → n ≡ chain_count param → last ≡ last_step param → length messages ≡ lanes → len ≡ 22 + 32 * n
    → digests ≡ map (λ m. sha256 (take len m)) messages
    → ((k : ℕ) → k < lanes → take (22 + 32 * n) (get_or messages k []) ≡ ends_behind id (q + k) last seed n)
    → digests ≡ map (λ leaf. public_key param id leaf seed) (range_with_len q lanes)
keys_of_messages param id q seed n last len messages digests count_is last_is long len_is made laid =
    let f : ℕ → List ℕ = λ leaf. public_key param id leaf seed in
    let hash : List ℕ → List ℕ = λ m. sha256 (take len m) in
    let count : length digests ≡ lanes = ap length made ∙ length-map messages hash ∙ long in
    ext_get_or [] digests (map f (range_with_len q lanes)) (count ∙ sym (length-map-range_with_len f q lanes))
    (λ k within.
    let lt : k < lanes = omega (arith, count) in
    ap (λ (ds : List (List ℕ)). get_or ds k []) made ∙ get_or-map hash messages k [] [] (omega (arith, long))
    ∙ ap (λ (size : ℕ). sha256 (take size (get_or messages k []))) len_is ∙ ap sha256 (laid k lt) ∙ key_behind param id (q + k) n last seed count_is last_is
    ∙ sym (get_or-map-range_with_len f q lanes k (q + k) [] lt (omega arith)))
