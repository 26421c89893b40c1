-- The key that a signature gives, from its elements, each run to its end.
use Rattle.std.proofs.Common.{◌≡◌, ℕ, ◌+◌, ◌-◌, ◌/◌, ◌<◌, ◌≤◌, List, [], length, take, drop, map, replicate, slice_index, slice_index_or, get_or, refl, sym}
use Rattle.std.proofs.Common.{◌∙◌, ap, arith}
use Rattle.std.specs.List.{range_with_len}
use Rattle.std.specs.Simd.{first_chunks}
use Rattle.std.proofs.lemmas.List.{ext_get_or, get_or-take, length-drop, take_rest}
use Rattle.std.proofs.lemmas.List.FromFn.{get_or-map-range_with_len, length-map-range_with_len}
use Rattle.sp_ots.specs.declared.param.OtsParam.{OtsParam}
use Rattle.sp_ots.specs.Parameters.{chain_count, last_step, signature_len, for_each_chain}
use Rattle.sp_ots.specs.Digits.{digit}
use Rattle.sp_ots.specs.Chains.{chain_end, chain_ends}
use Rattle.sp_ots.specs.Keys.{key_of_ends}
use Rattle.sp_ots.specs.Signature.{message_hash}
use Rattle.sp_ots.specs.Candidate.{element_of, candidate_ends, candidate_key, randomizer_of}
use Rattle.sp_ots.specs.Leaves.{front_of}
use Rattle.sp_ots.specs.TwoLeaves as run
use Rattle.sp_ots.specs.TwoLeaves.{run_ends, stepped_behind}
use Rattle.sp_ots.proofs.Parameters.{few_chains}
use Rattle.sp_ots.proofs.Ends.{ends_are, same_for_all, made_at, element_at, length-chunks}
use Rattle.sp_ots.proofs.TwoLeaves.{stepped_same}

-- the elements of a signature run from their digits to the last step
ends_of_signature : (param : OtsParam) (id : List ℕ) (q : ℕ) (hash signature from : List ℕ) (elements ends : List (List ℕ)) (n last : ℕ)
    → n ≡ chain_count param → last ≡ last_step param → take (chain_count param) from ≡ for_each_chain param (digit param hash)
    → elements ≡ first_chunks 32 n (drop 36 signature)
    → ends ≡ chain_ends id q (take n from) (take n (replicate 265 last)) elements
    → ends ≡ candidate_ends param id q hash signature
unfolding candidate_ends
ends_of_signature param id q hash signature from elements ends n last n_is last_is digits elements_are run =
    let few : n ≤ 265 = omega (arith, few_chains param) in
    let from_is : take n from ≡ map (digit param hash) (range_with_len 0 n) =
    ap (λ (k : ℕ). take k from) n_is ∙ digits ∙ ap (λ (k : ℕ). map (digit param hash) (range_with_len 0 k)) (sym n_is) in
    let long : length elements ≡ n = ap length elements_are ∙ length-chunks n (drop 36 signature) in
    run ∙ ends_are id q n (take n from) (take n (replicate 265 last)) elements (digit param hash) (λ _. last) (element_of signature) long
    (λ i within. made_at (digit param hash) (take n from) n i 0 from_is within)
    (λ i within. same_for_all n 265 last i few within)
    (λ i within. ap (λ (xs : List (List ℕ)). slice_index_or xs i []) elements_are ∙ element_at signature n i within)
    ∙ rw (n_is, last_is) refl

-- as many pieces of 32 bytes as chains stand after a signature's front
pub chunks_are : (param : OtsParam) (signature rest : List ℕ) (n : ℕ) → n ≡ chain_count param → length signature ≡ signature_len param
    → rest ≡ drop 36 signature
    → first_chunks 32 (length rest / 32) rest ≡ first_chunks 32 n (drop 36 signature)
chunks_are param signature rest n n_is whole rest_is =
    let count : length rest / 32 ≡ n = ap (λ (xs : List ℕ). length xs / 32) rest_is ∙ omega (arith, length-drop 36 signature) in
    rw (count, rest_is) refl

pub key_from_signature : (param : OtsParam) (id : List ℕ) (q : ℕ) (message signature : List ℕ) (count last : ℕ) (hash from : List ℕ)
    (elements ends : List (List ℕ)) (key : List ℕ)
    → count ≡ chain_count param → last ≡ last_step param → length signature ≡ signature_len param
    → hash ≡ message_hash id q (take 32 (drop 4 signature)) message
    → take (chain_count param) from ≡ for_each_chain param (digit param hash)
    → elements ≡ first_chunks 32 (length (take (length signature - 36) (drop 36 signature)) / 32) (take (length signature - 36) (drop 36 signature))
    → ends ≡ chain_ends id q (take count from) (take count (replicate 265 last)) elements → key ≡ key_of_ends id q ends
    → key ≡ candidate_key param id q message signature
unfolding candidate_key
key_from_signature param id q message signature count last hash from elements ends key count_is last_is whole hash_is digits cut run hashed =
    let pieces = cut ∙ chunks_are param signature (take (length signature - 36) (drop 36 signature)) count count_is whole (take_rest signature 36) in
    let all = ends_of_signature param id q hash signature from elements ends count last count_is last_is digits pieces run in
    hashed ∙ ap (key_of_ends id q) (all ∙ ap (λ (h : List ℕ). candidate_ends param id q h signature) hash_is)

-- what is laid down for the chains of a signature, which stand from a place on: their fronts, steps and elements
pub record AreLaid (param : OtsParam) (id : List ℕ) (q : ℕ) (message signature : List ℕ) (front : ℕ → List ℕ) (from to : List ℕ) (elements : List (List ℕ))
    (place : ℕ) : Type 0 where
  pub room : place + chain_count param ≤ length elements
  pub fronts : (i : ℕ) → i < chain_count param → front (place + i) ≡ front_of id q i
  pub digits : (i : ℕ) → i < chain_count param → slice_index from (place + i) ≡ digit param (message_hash id q (randomizer_of signature) message) i
  pub last : (i : ℕ) → i < chain_count param → slice_index to (place + i) ≡ last_step param
  pub signed : (i : ℕ) → i < chain_count param → slice_index_or elements (place + i) [] ≡ element_of signature i

-- the key that the ends of these chains give
pub key_of_part : (param : OtsParam) (id : List ℕ) (q : ℕ) (message signature : List ℕ) (front : ℕ → List ℕ) (from to : List ℕ) (elements ends : List (List ℕ))
    (place : ℕ) (part : List (List ℕ))
    → AreLaid param id q message signature front from to elements place → ends ≡ run_ends front from to elements → length part ≡ chain_count param
    → ((i : ℕ) → i < chain_count param → get_or part i [] ≡ get_or ends (place + i) [])
    → key_of_ends id q part ≡ candidate_key param id q message signature
unfolding candidate_key candidate_ends run_ends
key_of_part param id q message signature front from to elements ends place part laid ran long at =
    let hash = message_hash id q (randomizer_of signature) message in
    let n = chain_count param in
    let f : ℕ → List ℕ = λ i. run.element_at front from elements i (slice_index to i) in
    let g : ℕ → List ℕ = λ i. chain_end id q i (digit param hash i) (last_step param) (element_of signature i) in
    ap (key_of_ends id q) (ext_get_or [] part (map g (range_with_len 0 n)) (long ∙ sym (length-map-range_with_len g 0 n))
    (λ i within.
    let lt : i < n = omega (arith, long) in
    at i lt ∙ ap (λ (xs : List (List ℕ)). get_or xs (place + i) []) ran
    ∙ get_or-map-range_with_len f 0 (length elements) (place + i) (place + i) [] (omega (arith, laid.room)) (omega arith)
    ∙ (λ x. stepped_behind (laid.fronts i lt x) (laid.digits i lt x) (laid.last i lt x - laid.digits i lt x) (laid.signed i lt x))
    ∙ stepped_same id q i (digit param hash i) (last_step param - digit param hash i) (element_of signature i)
    ∙ sym (get_or-map-range_with_len g 0 n i i [] lt (omega arith))))

-- the digit of a chain among those of all
pub digit_at : (param : OtsParam) (hash from : List ℕ) (i : ℕ) → take (chain_count param) from ≡ for_each_chain param (digit param hash) → i < chain_count param
    → slice_index from i ≡ digit param hash i
digit_at param hash from i digits within =
    sym (get_or-take (chain_count param) from i 0 within) ∙ made_at (digit param hash) (take (chain_count param) from) (chain_count param) i 0 digits within
