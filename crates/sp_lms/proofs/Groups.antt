-- Leaves in groups of as many as there are lanes.
use Rattle.std.proofs.Common.{◌≡◌, ℕ, ◌+◌, ◌-◌, ◌*◌, ◌/◌, ◌<◌, List, [], map, get_or, refl, ◌∙◌, ap, arith}
use Rattle.std.specs.List.{range_with_len}
use Rattle.std.proofs.lemmas.List.FromFn.{get_or-map-range_with_len}
use Rattle.sp_ots.specs.Lanes.{lanes}
use Rattle.sp_ots.specs.declared.param.OtsParam.{OtsParam}
use Rattle.sp_ots.specs.Keys.{public_key}
use Rattle.sp_lms.specs.declared.param.LmsParam.{LmsParam}
use Rattle.sp_lms.specs.declared.param.LmsParam.TheVariants.{H5, H10, H15}
use Rattle.sp_lms.specs.Parameters.{leaf_count}
use Rattle.sp_lms.specs.Trees.{leaf_hash}
use Rattle.sp_lms.specs.Keys.{seed_leaf}

-- the groups are all leaves
pub whole_groups : (lms : LmsParam) → lanes * (leaf_count lms / lanes) ≡ leaf_count lms
whole_groups H5 = refl
whole_groups H10 = refl
whole_groups H15 = refl

-- a leaf of a group, from the public keys of the group
pub leaf_at : (lms : LmsParam) (ots : OtsParam) (id seed : List ℕ) (q k : ℕ) (keys : List (List ℕ)) (node : List ℕ) (count : ℕ) → k < lanes
    → count ≡ leaf_count lms → keys ≡ map (λ leaf. public_key ots id leaf seed) (range_with_len q lanes)
    → node ≡ leaf_hash id (count + (q + k)) (get_or keys k []) → node ≡ seed_leaf lms ots id seed (leaf_count lms + (q + k))
unfolding seed_leaf
leaf_at lms ots id seed q k keys node count lt count_is made hashed =
    let f : ℕ → List ℕ = λ leaf. public_key ots id leaf seed in
    let own : leaf_count lms + (q + k) - leaf_count lms ≡ q + k = omega arith in
    let key : get_or keys k [] ≡ f (q + k) =
    ap (λ (ks : List (List ℕ)). get_or ks k []) made ∙ get_or-map-range_with_len f q lanes k (q + k) [] lt (omega arith) in
    hashed ∙ rw (count_is, key, own) refl
