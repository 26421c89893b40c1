-- A signature that a seed gives is valid under the public key of that seed.
use Rattle.std.proofs.Common.{◌≡◌, ℕ, zero, suc, ◌+◌, ◌-◌, ◌*◌, ◌/◌, ◌<◌, ◌≤◌, ◌^◌, List, ◌++◌, length, take, sym, ◌∙◌, ap, arith}
use Rattle.std.specs.List.{concat}
use Rattle.std.specs.Simd.{first_chunks}
use Rattle.std.proofs.lemmas.List.{take_all}
use Rattle.std.proofs.lemmas.Nat.{from_be_bytes-to_be_bytes_4, shr_high}
use Rattle.sha2.proofs.Facts256.{length-sha256}
use Rattle.sp_ots.specs.declared.param.OtsParam.{OtsParam}
use Rattle.sp_ots.specs.declared.param.OtsParam.TheVariants.{W1, W2, W4, W8}
use Rattle.sp_ots.specs.Parameters as ots
use Rattle.sp_ots.specs.Strings.{u16str, u32str}
use Rattle.sp_ots.specs.Keys as one_time_keys
use Rattle.sp_ots.specs.Signature as one_time_signatures
use Rattle.sp_ots.specs.Candidate.{candidate_key}
use Rattle.sp_ots.proofs.Validity.{length-u32str, length-pieces, signature-valid}
use Rattle.sp_lms.specs.declared.param.LmsParam.{LmsParam}
use Rattle.sp_lms.specs.declared.param.LmsParam.TheVariants.{H5, H10, H15}
use Rattle.sp_lms.specs.Numbers.{str_to_u32}
use Rattle.sp_lms.specs.Parameters.{height, typecode, leaf_count, signature_len}
use Rattle.sp_lms.specs.Trees.{leaf_hash, inner_hash, tree_node, sibling, path}
use Rattle.sp_lms.specs.Keys.{seed_leaf, root, public_key, signature}
use Rattle.sp_lms.specs.Validity.{id_of, root_of, leaf_of, one_time_of, path_of, candidate_root}
use Rattle.sp_lms.specs.Laws.{SeedSignaturesAreValid}
use Rattle.sp_lms.proofs.Ancestors.{climbs}
use Rattle.sp_lms.proofs.Parts.{Parts, parts, chunks-concat}

-- a number is read as it was written
pub str_to_u32-u32str : (x : ℕ) → x < 2 ^ 32 → str_to_u32 (u32str x) ≡ x
unfolding str_to_u32 u32str
str_to_u32-u32str x fits = from_be_bytes-to_be_bytes_4 x fits

tree_code_fits : (lms : LmsParam) → typecode lms < 2 ^ 32
tree_code_fits H5 = omega arith
tree_code_fits H10 = omega arith
tree_code_fits H15 = omega arith

one_time_code_fits : (one_time : OtsParam) → ots.typecode one_time < 2 ^ 32
one_time_code_fits W1 = omega arith
one_time_code_fits W2 = omega arith
one_time_code_fits W4 = omega arith
one_time_code_fits W8 = omega arith

leaf_count_fits : (lms : LmsParam) → leaf_count lms ≤ 2 ^ 15
leaf_count_fits H5 = omega arith
leaf_count_fits H10 = omega arith
leaf_count_fits H15 = omega arith

-- every node of the seed's tree has 32 bytes
length-seed_leaf : (lms : LmsParam) (one_time : OtsParam) (id seed : List ℕ) (r : ℕ) → length (seed_leaf lms one_time id seed r) ≡ 32
unfolding seed_leaf leaf_hash
length-seed_leaf lms one_time id seed r = length-sha256 (id ++ u32str r ++ u16str 33410 ++ one_time_keys.public_key one_time id (r - leaf_count lms) seed)

length-tree_node : (id : List ℕ) (leaf : ℕ → List ℕ) → ((r : ℕ) → length (leaf r) ≡ 32) → (level r : ℕ) → length (tree_node id leaf level r) ≡ 32
unfolding tree_node inner_hash
length-tree_node id leaf long zero r = long r
length-tree_node id leaf long (suc level) r =
    length-sha256 (id ++ u32str r ++ u16str 33667 ++ tree_node id leaf level (2 * r) ++ tree_node id leaf level (2 * r + 1))

-- the parts of a public key
public_parts : (lms : LmsParam) (one_time : OtsParam) (id seed : List ℕ) → length id ≡ 16
    → Parts (u32str (typecode lms)) (u32str (ots.typecode one_time)) id (root lms one_time id seed) (public_key lms one_time id seed) 4 8 24
unfolding public_key
public_parts lms one_time id seed long =
    parts (u32str (typecode lms)) (u32str (ots.typecode one_time)) id (root lms one_time id seed) 4 8 24 (length-u32str (typecode lms))
    (omega (arith, length-u32str (ots.typecode one_time))) (omega arith)

-- the parts of a signature
signature_parts : (lms : LmsParam) (one_time : OtsParam) (id seed : List ℕ) (q : ℕ) (message : List ℕ)
    → Parts (u32str q) (one_time_signatures.signature one_time id q seed message) (u32str (typecode lms))
    (concat (path id (seed_leaf lms one_time id seed) (height lms) (leaf_count lms + q))) (signature lms one_time id seed q message)
    4 (4 + ots.signature_len one_time) (8 + ots.signature_len one_time)
unfolding signature
signature_parts lms one_time id seed q message =
    let v = signature-valid one_time id q seed message in
    parts (u32str q) (one_time_signatures.signature one_time id q seed message) (u32str (typecode lms))
    (concat (path id (seed_leaf lms one_time id seed) (height lms) (leaf_count lms + q)))
    4 (4 + ots.signature_len one_time) (8 + ots.signature_len one_time) (length-u32str q) (ap (λ (n : ℕ). 4 + n) v.length_is)
    (omega (arith, length-u32str (typecode lms)))

-- the path of a signature is that of the leaf, and its length
path_found : (lms : LmsParam) (one_time : OtsParam) (id seed : List ℕ) (q : ℕ) (message : List ℕ)
    → (path_of lms one_time (signature lms one_time id seed q message) ≡ path id (seed_leaf lms one_time id seed) (height lms) (leaf_count lms + q))
    × (length (signature lms one_time id seed q message) ≡ signature_len lms one_time)
unfolding path
path_found lms one_time id seed q message =
    let leaf = seed_leaf lms one_time id seed in
    let f : ℕ → List ℕ = λ level. tree_node id leaf level (sibling ((leaf_count lms + q) / 2 ^ level)) in
    let long : (i : ℕ) → length (f i) ≡ 32 = λ i. length-tree_node id leaf (length-seed_leaf lms one_time id seed) i (sibling ((leaf_count lms + q) / 2 ^ i)) in
    let p = signature_parts lms one_time id seed q message in (
      ap (first_chunks 32 (height lms)) p.fourth ∙ chunks-concat f 0 (height lms) long,
      omega (arith, p.long, length-pieces f 0 (height lms) long),
    )

-- a signature has the length that its parameter sets say
pub length-signature : (lms : LmsParam) (one_time : OtsParam) (id seed : List ℕ) (q : ℕ) (message : List ℕ)
    → length (signature lms one_time id seed q message) ≡ signature_len lms one_time
length-signature lms one_time id seed q message = (path_found lms one_time id seed q message).1

pub seed_signatures_are_valid : SeedSignaturesAreValid
unfolding candidate_root seed_leaf
seed_signatures_are_valid lms one_time id seed message q id_long within =
    let whole = signature lms one_time id seed q message in
    let public = public_key lms one_time id seed in
    let leaf = seed_leaf lms one_time id seed in
    let r = leaf_count lms + q in
    let v = signature-valid one_time id q seed message in
    let k = public_parts lms one_time id seed id_long in
    let p = signature_parts lms one_time id seed q message in
    let found = path_found lms one_time id seed q message in
    let count_fits = leaf_count_fits lms in
    let long_root : length (root lms one_time id seed) ≡ 32 = length-tree_node id leaf (length-seed_leaf lms one_time id seed) (height lms) 1 in
    let q_is : leaf_of whole ≡ q = ap str_to_u32 p.first ∙ str_to_u32-u32str q (omega (arith, count_fits)) in
    let own : r - leaf_count lms ≡ q = omega arith in
    let one_time_is : one_time_of one_time whole ≡ one_time_signatures.signature one_time id q seed message = p.second in
    let key_is : candidate_key one_time id q message (one_time_of one_time whole) ≡ one_time_keys.public_key one_time id (r - leaf_count lms) seed =
    ap (candidate_key one_time id q message) one_time_is ∙ sym v.key_is ∙ ap (λ (i : ℕ). one_time_keys.public_key one_time id i seed) (sym own) in
    let top : r / 2 ^ height lms ≡ 1 = ap (λ (n : ℕ). n / 2 ^ height lms) (omega arith) ∙ shr_high 1 (height lms) q within in
    let id_is : id_of public ≡ id = k.third in
    let root_is : root_of public ≡ root lms one_time id seed = ap (take 32) k.fourth ∙ take_all 32 (root lms one_time id seed) (omega (arith, long_root)) in
    let climbed : candidate_root lms one_time id message whole ≡ root lms one_time id seed =
    rw (q_is, key_is, found.0) (climbs id leaf (height lms) r (height lms) (omega arith) ∙ ap (tree_node id leaf (height lms)) top) in (
      lms,
      one_time,
      record {
        length_is = omega (arith, k.long, long_root);
        tree_is = ap str_to_u32 k.first ∙ str_to_u32-u32str (typecode lms) (tree_code_fits lms);
        one_time_is = ap str_to_u32 k.second ∙ str_to_u32-u32str (ots.typecode one_time) (one_time_code_fits one_time);
      },
      record {
        length_is = found.1;
        leaf_is = omega (arith, q_is);
        one_time_is = ap (take 4) one_time_is ∙ v.typecode_is;
        tree_is = ap str_to_u32 p.third ∙ str_to_u32-u32str (typecode lms) (tree_code_fits lms);
        root_is = root_is ∙ sym climbed ∙ ap (λ (i : List ℕ). candidate_root lms one_time i message whole) (sym id_is);
      },
    )
