-- A signature that a seed gives is valid under the public key of that seed.
use Rattle.std.proofs.Common.{◌≡◌, ℕ, zero, suc, ◌+◌, ◌-◌, ◌*◌, ◌<◌, ◌≤◌, ◌^◌, List, [], ◌∷◌, ◌++◌, length, take, drop, map, refl, sym, ◌∙◌, ap, arith}
use Rattle.std.specs.List.{range_with_len, concat}
use Rattle.std.proofs.lemmas.List.{append_assoc, take_at, drop_at, drop-drop, length-append}
use Rattle.std.proofs.lemmas.Nat.{and_le_l}
use Rattle.sha2.proofs.Facts256.{length-sha256}
use Rattle.sp_ots.specs.declared.param.OtsParam.{OtsParam}
use Rattle.sp_ots.specs.Parameters.{width, chain_count, last_step, typecode, signature_len, for_each_chain}
use Rattle.sp_ots.specs.Strings.{u32str, u16str}
use Rattle.sp_ots.specs.Digits.{digit}
use Rattle.sp_ots.specs.Chains.{next_element, stepped, chain_end}
use Rattle.sp_ots.specs.Keys.{private_start, key_of_ends, public_key}
use Rattle.sp_ots.specs.Signature.{message_hash, randomizer, signed_elements, signature}
use Rattle.sp_ots.specs.Candidate.{randomizer_of, element_of, candidate_ends, candidate_key, IsValid}
use Rattle.sp_ots.proofs.Ends.{map_same}

-- some steps, and then some more
stepped-add : (id : List ℕ) (q i from a b : ℕ) (element : List ℕ)
    → stepped id q i from (a + b) element ≡ stepped id q i (from + a) b (stepped id q i from a element)
unfolding stepped
stepped-add id q i from a zero element = let none : a + 0 ≡ a = omega arith in rw none refl
stepped-add id q i from a (suc b) element =
    let count : a + suc b ≡ suc (a + b) = omega arith in
    let place : from + (a + b) ≡ from + a + b = omega arith in
    rw (count, place) (ap (next_element id q i (from + a + b)) (stepped-add id q i from a b element))

-- a chain that stops on the way and goes on
chain_end-join : (id : List ℕ) (q i mid to : ℕ) (element : List ℕ) → mid ≤ to
    → chain_end id q i mid to (chain_end id q i 0 mid element) ≡ chain_end id q i 0 to element
chain_end-join id q i mid to element within =
    let first : mid - 0 ≡ mid = omega arith in
    let all : to - 0 ≡ mid + (to - mid) = omega arith in
    let start : mid ≡ 0 + mid = omega arith in
    rw (first, all) (ap (λ (from : ℕ). stepped id q i from (to - mid) (stepped id q i 0 mid element)) start ∙ sym (stepped-add id q i 0 mid (to - mid) element))

-- an element has 32 bytes if the first one has
length-stepped : (id : List ℕ) (q i from count : ℕ) (element : List ℕ) → length element ≡ 32 → length (stepped id q i from count element) ≡ 32
unfolding stepped next_element
length-stepped id q i from zero element long = long
length-stepped id q i from (suc count) element long =
    length-sha256 (id ++ u32str q ++ u16str i ++ (from + count) ∷ [] ++ stepped id q i from count element)

length-private_start : (id : List ℕ) (q : ℕ) (seed : List ℕ) (i : ℕ) → length (private_start id q seed i) ≡ 32
unfolding private_start
length-private_start id q seed i = length-sha256 (id ++ u32str q ++ u16str i ++ 255 ∷ [] ++ seed)

length-randomizer : (id : List ℕ) (q : ℕ) (seed : List ℕ) → length (randomizer id q seed) ≡ 32
unfolding randomizer
length-randomizer id q seed = length-sha256 (id ++ u32str q ++ u16str 65533 ++ 255 ∷ [] ++ seed)

-- a number of 32 bits is four bytes
pub length-u32str : (x : ℕ) → length (u32str x) ≡ 4
unfolding u32str
length-u32str x = refl

-- no digit is above the greatest
digit-le : (param : OtsParam) (hash : List ℕ) (i : ℕ) → digit param hash i ≤ last_step param
unfolding digit
digit-le param hash i = and_le_l (2 ^ width param - 1) _

-- pieces of 32 bytes, one after the other: their length, and each of them
pub length-pieces : (f : ℕ → List ℕ) (a n : ℕ) → ((i : ℕ) → length (f i) ≡ 32) → length (concat (map f (range_with_len a n))) ≡ 32 * n
length-pieces f a zero long = refl
length-pieces f a (suc n) long =
    let rest = concat (map f (range_with_len (a + 1) n)) in
    omega (arith, length-append (f a) rest, long a, length-pieces f (a + 1) n long)

pub piece_at : (f : ℕ → List ℕ) (a n i : ℕ) → ((i : ℕ) → length (f i) ≡ 32) → i < n → take 32 (drop (32 * i) (concat (map f (range_with_len a n)))) ≡ f (a + i)
piece_at f a zero i long within = absurd (omega arith)
piece_at f a (suc n) zero long within =
    let place : a + 0 ≡ a = omega arith in
    take_at (f a) (concat (map f (range_with_len (a + 1) n))) 32 (long a) ∙ rw place refl
piece_at f a (suc n) (suc i) long within =
    let rest = concat (map f (range_with_len (a + 1) n)) in
    let place : 32 * suc i ≡ 32 + 32 * i = omega arith in
    let index : a + 1 + i ≡ a + suc i = omega arith in
    let left : drop (32 * suc i) (f a ++ rest) ≡ drop (32 * i) rest =
    ap (λ (k : ℕ). drop k (f a ++ rest)) place ∙ sym (drop-drop (32 * i) 32 (f a ++ rest)) ∙ ap (drop (32 * i)) (drop_at (f a) rest 32 (long a)) in
    ap (take 32) left ∙ piece_at f (a + 1) n i long (omega arith) ∙ ap f index

-- the three parts of a signature
record Parts (param : OtsParam) (id : List ℕ) (q : ℕ) (seed hash whole : List ℕ) : Type 0 where
  pub long : length whole ≡ signature_len param
  pub code : take 4 whole ≡ u32str (typecode param)
  pub random : randomizer_of whole ≡ randomizer id q seed
  pub element : (i : ℕ) → i < chain_count param → element_of whole i ≡ chain_end id q i 0 (digit param hash i) (private_start id q seed i)

parts : (param : OtsParam) (id : List ℕ) (q : ℕ) (seed hash : List ℕ)
    → Parts param id q seed hash (u32str (typecode param) ++ randomizer id q seed ++ concat (signed_elements param id q seed hash))
unfolding signed_elements
parts param id q seed hash =
    let code = u32str (typecode param) in
    let random = randomizer id q seed in
    let f : ℕ → List ℕ = λ i. chain_end id q i 0 (digit param hash i) (private_start id q seed i) in
    let each : (i : ℕ) → length (f i) ≡ 32 =
    λ i. length-stepped id q i 0 (digit param hash i - 0) (private_start id q seed i) (length-private_start id q seed i) in
    let rest = concat (map f (range_with_len 0 (chain_count param))) in
    let long_code = length-u32str (typecode param) in
    let long_random = length-randomizer id q seed in
    let long_front : length (code ++ random) ≡ 36 = length-append code random ∙ omega arith in
    let behind_code : code ++ random ++ rest ≡ code ++ (random ++ rest) = append_assoc code random rest in
    record {
      long = omega (arith, length-append (code ++ random) rest, long_front, length-pieces f 0 (chain_count param) each);
      code = ap (take 4) behind_code ∙ take_at code (random ++ rest) 4 long_code;
      random = ap (λ (xs : List ℕ). take 32 (drop 4 xs)) behind_code ∙ ap (take 32) (drop_at code (random ++ rest) 4 long_code)
          ∙ take_at random rest 32 long_random;
      element = λ i within.
          let size : 36 + 32 * i + 32 - (36 + 32 * i) ≡ 32 = omega arith in
          let index : 0 + i ≡ i = omega arith in
          rw size (ap (take 32) (sym (drop-drop (32 * i) 36 (code ++ random ++ rest)) ∙ ap (drop (32 * i)) (drop_at (code ++ random) rest 36 long_front))
          ∙ piece_at f 0 (chain_count param) i each within ∙ ap f index);
    }

-- the elements of a signature lead to the ends of all chains
ends_meet : (param : OtsParam) (id : List ℕ) (q : ℕ) (seed hash whole : List ℕ) → Parts param id q seed hash whole
    → for_each_chain param (λ i. chain_end id q i 0 (last_step param) (private_start id q seed i)) ≡ candidate_ends param id q hash whole
unfolding candidate_ends
ends_meet param id q seed hash whole p =
    map_same (λ i. chain_end id q i 0 (last_step param) (private_start id q seed i))
    (λ i. chain_end id q i (digit param hash i) (last_step param) (element_of whole i))
    0 (chain_count param) (λ i low high.
    sym (ap (λ (x : List ℕ). chain_end id q i (digit param hash i) (last_step param) x) (p.element i (omega arith))
    ∙ chain_end-join id q i (digit param hash i) (last_step param) (private_start id q seed i) (digit-le param hash i)))

-- a one-time signature is valid under the public key of its seed
pub signature-valid : (param : OtsParam) (id : List ℕ) (q : ℕ) (seed message : List ℕ)
    → IsValid param id q (public_key param id q seed) message (signature param id q seed message)
unfolding public_key candidate_key signature
signature-valid param id q seed message =
    let hash = message_hash id q (randomizer id q seed) message in
    let p = parts param id q seed hash in
    let same : hash ≡ message_hash id q (randomizer_of (signature param id q seed message)) message =
    ap (λ (c : List ℕ). message_hash id q c message) (sym p.random) in
    record {
      length_is = p.long;
      typecode_is = p.code;
      key_is = ap (key_of_ends id q) (ends_meet param id q seed hash (signature param id q seed message) p
          ∙ ap (λ (h : List ℕ). candidate_ends param id q h (signature param id q seed message)) same);
    }
