-- What a seed signs is valid under the seed's public key.
use Rattle.std.proofs.Common.{◌≡◌, ℕ, ◌/◌, ◌%◌, ◌^◌, ◌<◌, List, ◌++◌, length, drop, sym, ◌∙◌, ap, arith, inr}
use Rattle.std.proofs.lemmas.List.{append_assoc, take_at, drop_at, length-take-le}
use Rattle.std.proofs.lemmas.Nat.{div_below, mod_below, pow_pos}
use Rattle.std.specs.Prelude.{codes}
use Rattle.sp_hmac.specs.Hmac.{hmac}
use Rattle.sp_hmac.proofs.Lengths.{length-hmac}
use Rattle.sp_ots.specs.declared.param.OtsParam.TheVariants.{W4}
use Rattle.sp_ots.specs.Strings.{u32str}
use Rattle.sp_ots.proofs.Validity.{length-u32str}
use Rattle.sp_lms.specs.Numbers.{str_to_u32}
use Rattle.sp_lms.specs.Parameters.{height, leaf_count}
use Rattle.sp_lms.proofs.Validity as lms
use Rattle.sp_hss.specs.declared.tree.Tree.{Tree}
use Rattle.sp_hss.specs.declared.tree.Tree.TheVariants.{Upper, Lower}
use Rattle.sp_hss.specs.KeyTree.{name, tree_id, tree_seed, tree_key, tree_signature, front_of, public_key, signature}
use Rattle.sp_hss.specs.Validity.{number_of}
use Rattle.sp_hss.specs.Laws.{SeedSignaturesAreValid}

pub length-tree_id : (seed : List ℕ) (tree : Tree) → length (tree_id seed tree) ≡ 16
unfolding tree_id
length-tree_id seed tree = length-take-le 16 (hmac seed (codes "I" ++ name tree)) (omega (arith, length-hmac seed (codes "I" ++ name tree)))

-- a number and what stands after it
number_first : (x : ℕ) (rest : List ℕ) → x < 2 ^ 32 → (number_of (u32str x ++ rest) ≡ x) × (drop 4 (u32str x ++ rest) ≡ rest)
number_first x rest fits =
    let long = length-u32str x in (
      ap str_to_u32 (take_at (u32str x) rest 4 long) ∙ lms.str_to_u32-u32str x fits,
      drop_at (u32str x) rest 4 long,
    )

pub seed_signatures_are_valid : SeedSignaturesAreValid
unfolding public_key signature front_of
seed_signatures_are_valid h seed message index within =
    let n = leaf_count h in
    let t = index / n in
    let some = pow_pos (height h) in
    let tree_is : t < n = div_below index n n some within in
    let leaf_is : index % n < n = mod_below index n some in
    let lower_key = tree_key h seed (Lower t) in
    let upper = tree_signature h seed Upper t lower_key in
    let lower = tree_signature h seed (Lower t) (index % n) message in
    let key = number_first 2 (tree_key h seed Upper) (omega arith) in
    let behind : signature h seed index message ≡ u32str 1 ++ (upper ++ lower_key ++ lower) =
    append_assoc (u32str 1 ++ upper) lower_key lower ∙ append_assoc (u32str 1) upper (lower_key ++ lower)
    ∙ ap (λ (xs : List ℕ). u32str 1 ++ xs) (sym (append_assoc upper lower_key lower)) in
    let parts = number_first 1 (upper ++ lower_key ++ lower) (omega arith) in
    inr record {
      levels = key.0;
      levels_below = ap number_of behind ∙ parts.0;
      signed = (
        upper,
        lower_key,
        lower,
        record {
          parts = ap (drop 4) behind ∙ parts.1;
          upper_valid =
              rw key.1 (lms.seed_signatures_are_valid h W4 (tree_id seed Upper) (tree_seed seed Upper) lower_key t (length-tree_id seed Upper) tree_is);
          lower_valid =
              lms.seed_signatures_are_valid h W4 (tree_id seed (Lower t)) (tree_seed seed (Lower t)) message (index % n) (length-tree_id seed (Lower t))
              leaf_is;
        },
      );
    }
