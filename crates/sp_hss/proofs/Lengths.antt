-- How long the parts of a signature are, and the leaf that an index belongs to.
use Rattle.std.proofs.Common.{◌≡◌, ℕ, ◌+◌, ◌-◌, ◌*◌, ◌/◌, ◌%◌, ◌<◌, ◌≤◌, List, [], ◌++◌, length, min, ◌∙◌, ap, inl, inr, arith}
use Rattle.std.proofs.Math.Nat.{mul-le-mul_left}
use Rattle.std.proofs.lemmas.Bool.{cases_lt}
use Rattle.std.proofs.lemmas.List.{length-append}
use Rattle.std.proofs.lemmas.Nat.{pow_pos}
use Rattle.sp_ots.specs.declared.param.OtsParam.TheVariants.{W4}
use Rattle.sp_ots.specs.Strings.{u32str}
use Rattle.sp_ots.proofs.Validity.{length-u32str}
use Rattle.sp_lms.specs.declared.param.LmsParam.{LmsParam}
use Rattle.sp_lms.specs.Parameters.{height}
use Rattle.sp_lms.proofs.Validity as lms
use Rattle.sp_hss.specs.declared.tree.Tree.{Tree}
use Rattle.sp_hss.specs.declared.tree.Tree.TheVariants.{Upper, Lower}
use Rattle.sp_hss.specs.KeyTree.{tree_id, tree_seed, tree_key, tree_signature, front_of, front_len}
use Rattle.sp_hss.proofs.Validity.{length-tree_id}

length-tree_key : (h : LmsParam) (seed : List ℕ) (tree : Tree) → length (tree_key h seed tree) ≡ 56
length-tree_key h seed tree =
    (lms.seed_signatures_are_valid h W4 (tree_id seed tree) (tree_seed seed tree) [] 0 (length-tree_id seed tree) (pow_pos (height h))).2.length_is

-- the front of each signature under a key of this height has the length `front_len`
pub length-front_of : (h : LmsParam) (seed : List ℕ) (t : ℕ) → length (front_of h seed t) ≡ front_len h
unfolding front_of
length-front_of h seed t =
    let key = tree_key h seed (Lower t) in
    let own = tree_signature h seed Upper t key in
    omega (
      arith,
      length-append (u32str 1 ++ own) key,
      length-append (u32str 1) own,
      length-u32str 1,
      length-tree_key h seed (Lower t),
      lms.length-signature h W4 (tree_id seed Upper) (tree_seed seed Upper) t key,
    )

-- the leaf of an index in its lower tree
pub leaf_of_index : (n t index used : ℕ) → t ≡ index / n → index ≡ t * n + used → used ≡ index % n
leaf_of_index n t index used t_is index_is = grind arith

-- where a signer starts: in the lower tree that the index belongs to, or at the end of the last one
pub record StartsAt (n from t : ℕ) : Type 0 where
  pub tree : t < n
  pub index : from ≡ t * n + (from - t * n)
  pub leaf : from - t * n ≤ n

starts_below : (m from t : ℕ) → from ≤ (m + 1) * (m + 1) → t ≡ min (from / (m + 1)) m → StartsAt (m + 1) from t
starts_below m from t within t_is = elim (cases_lt m (from / (m + 1))) [
  | inl last ↦
      let end : t ≡ m = omega arith in
      let most : (m + 1) * (m + 1) ≤ from = omega (arith, mul-le-mul_left (m + 1) last) in
      let place : t * (m + 1) ≡ m * m + m = ap (λ (k : ℕ). k * (m + 1)) end ∙ omega arith in
      record { tree = omega arith; index = omega (arith, place); leaf = omega (arith, place) }
  | inr own ↦
      let here : t ≡ from / (m + 1) = omega arith in
      let place : t * (m + 1) ≡ (m + 1) * (from / (m + 1)) = ap (λ (k : ℕ). k * (m + 1)) here ∙ omega arith in
      record { tree = omega arith; index = omega (arith, place); leaf = omega (arith, place) }
]

pub starts_at : (n from t : ℕ) → 0 < n → from ≤ n * n → t ≡ min (from / n) (n - 1) → StartsAt n from t
starts_at n from t some within t_is =
    let m = n - 1 in
    let e : n - 1 + 1 ≡ n = omega arith in
    rw (← e) (starts_below (n - 1) from t (rw e within) (rw e t_is))
