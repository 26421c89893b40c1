-- The root that a signature gives, as the code comes to it.
use Rattle.std.proofs.Common.{◌≡◌, ℕ, ◌+◌, ◌-◌, ◌/◌, List, length, take, drop, refl, sym, ◌∙◌, ap, arith}
use Rattle.std.specs.Simd.{first_chunks}
use Rattle.std.proofs.lemmas.List.{length-drop, length-take-le, take_rest}
use Rattle.sp_ots.specs.declared.param.OtsParam.{OtsParam}
use Rattle.sp_ots.specs.Parameters as ots
use Rattle.sp_ots.specs.Candidate.{candidate_key}
use Rattle.sp_ots.specs.Candidate as one
use Rattle.sp_ots.specs.Form as one_form
use Rattle.sp_ots.proofs.Ends.{length-chunks}
use Rattle.sp_lms.specs.declared.param.LmsParam.{LmsParam}
use Rattle.sp_lms.specs.Parameters.{height, leaf_count, signature_len}
use Rattle.sp_lms.specs.Trees.{leaf_hash, ancestor}
use Rattle.sp_lms.specs.Form.{HasForm, root_above}
use Rattle.sp_lms.specs.Validity.{IsValidUnder, leaf_of, one_time_of, path_of, candidate_root}

pub root_found : (lms : LmsParam) (one_time : OtsParam) (id key signature : List ℕ) (q n count : ℕ) (siblings : List (List ℕ)) (node root : List ℕ)
    → length signature ≡ signature_len lms one_time → q ≡ leaf_of signature → n ≡ ots.signature_len one_time → count ≡ leaf_count lms
    → (let rest = take (length signature - (8 + n)) (drop (8 + n) signature) in siblings ≡ first_chunks 32 (length rest / 32) rest)
    → node ≡ leaf_hash id (count + q) key
    → root ≡ ancestor id siblings (count + q) node (length siblings)
    → root ≡ root_above lms one_time id key signature
unfolding root_above
root_found lms one_time id key signature q n count siblings node root long q_is n_is count_is cut node_is climbed =
    let behind : 8 + n ≡ 8 + ots.signature_len one_time = omega (arith, n_is) in
    let rest : take (length signature - (8 + n)) (drop (8 + n) signature) ≡ drop (8 + ots.signature_len one_time) signature =
    take_rest signature (8 + n) ∙ ap (λ (k : ℕ). drop k signature) behind in
    let pieces : length (drop (8 + ots.signature_len one_time) signature) / 32 ≡ height lms =
    omega (arith, length-drop (8 + ots.signature_len one_time) signature, long) in
    let path : siblings ≡ path_of lms one_time signature = cut ∙ rw (rest, pieces) refl in
    let levels : length siblings ≡ height lms = ap length path ∙ length-chunks (height lms) (drop (8 + ots.signature_len one_time) signature) in
    let leaf : node ≡ leaf_hash id (leaf_count lms + leaf_of signature) key = node_is ∙ rw (count_is, q_is) refl in
    climbed ∙ rw (levels, path, leaf, count_is, q_is) refl

-- a signature of the right form is valid exactly where its one-time key leads to the root
pub valid_by_key : (lms : LmsParam) (one_time : OtsParam) (id root message signature : List ℕ) (q : ℕ) (key : List ℕ) → HasForm lms one_time signature
    → q ≡ leaf_of signature → one.IsValid one_time id q key message (one_time_of one_time signature)
    → (root ≡ root_above lms one_time id key signature → IsValidUnder lms one_time id root message signature)
    × (IsValidUnder lms one_time id root message signature → root ≡ root_above lms one_time id key signature)
unfolding candidate_root root_above
valid_by_key lms one_time id root message signature q key form q_is valid =
    let key_is : key ≡ candidate_key one_time id (leaf_of signature) message (one_time_of one_time signature) =
    valid.key_is ∙ ap (λ (leaf : ℕ). candidate_key one_time id leaf message (one_time_of one_time signature)) q_is in
    let same : root_above lms one_time id key signature ≡ candidate_root lms one_time id message signature =
    ap (λ (k : List ℕ). root_above lms one_time id k signature) key_is in (
      λ above. record {
        length_is = form.length_is;
        leaf_is = form.leaf_is;
        one_time_is = valid.typecode_is;
        tree_is = form.tree_is;
        root_is = above ∙ same;
      },
      λ right. right.root_is ∙ sym same,
    )

-- what is valid has the right form
pub form_of_valid : (lms : LmsParam) (one_time : OtsParam) (id root message signature : List ℕ) → IsValidUnder lms one_time id root message signature
    → HasForm lms one_time signature
form_of_valid lms one_time id root message signature valid =
    record { length_is = valid.length_is; leaf_is = valid.leaf_is; tree_is = valid.tree_is }

-- the one-time signature in a signature has its length
pub one_time_long : (lms : LmsParam) (one_time : OtsParam) (signature : List ℕ) → length signature ≡ signature_len lms one_time
    → length (one_time_of one_time signature) ≡ ots.signature_len one_time
one_time_long lms one_time signature long =
    let n = ots.signature_len one_time in
    length-take-le (4 + n - 4) (drop 4 signature) (omega (arith, length-drop 4 signature, long)) ∙ omega arith

-- a claim that a one-time signature stands in a signature: its parts
pub record IsWithin (lms : LmsParam) (one_time : OtsParam) (id message signature : List ℕ) (param : OtsParam) (claim_id : List ℕ) (q : ℕ)
    (claim_message part : List ℕ) : Type 0 where
  pub form_is : HasForm lms one_time signature
  pub param_is : param ≡ one_time
  pub id_is : claim_id ≡ id
  pub leaf_is : q ≡ leaf_of signature
  pub message_is : claim_message ≡ message
  pub part_is : part ≡ one_time_of one_time signature

-- where the whole is valid, so is the form of the one-time signature
pub form_within : (lms : LmsParam) (one_time : OtsParam) (id root message signature : List ℕ) (param : OtsParam) (claim_id : List ℕ) (q : ℕ)
    (claim_message part : List ℕ)
    → IsWithin lms one_time id message signature param claim_id q claim_message part → IsValidUnder lms one_time id root message signature
    → one_form.HasForm param part
form_within lms one_time id root message signature param claim_id q claim_message part within valid =
    rw (within.param_is, within.part_is) (one_time_long lms one_time signature valid.length_is, valid.one_time_is)

-- and the whole is valid exactly where the key of the claim leads to the root
pub valid_within : (lms : LmsParam) (one_time : OtsParam) (id root message signature : List ℕ) (param : OtsParam) (claim_id : List ℕ) (q : ℕ)
    (claim_message part key : List ℕ)
    → IsWithin lms one_time id message signature param claim_id q claim_message part → one.IsValid param claim_id q key claim_message part
    → (root ≡ root_above lms one_time id key signature → IsValidUnder lms one_time id root message signature)
    × (IsValidUnder lms one_time id root message signature → root ≡ root_above lms one_time id key signature)
valid_within lms one_time id root message signature param claim_id q claim_message part key within valid =
    valid_by_key lms one_time id root message signature q key within.form_is within.leaf_is
    (rw (within.param_is, within.id_is, within.message_is, within.part_is) at valid)
