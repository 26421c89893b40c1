-- A public key is of one pair of parameter sets alone.
use Rattle.std.proofs.Common.{◌≡◌, ℕ, List, refl, sym, ◌∙◌}
use Rattle.sp_ots.specs.declared.param.OtsParam.{OtsParam}
use Rattle.sp_ots.specs.declared.param.OtsParam.TheVariants.{W1, W2, W4, W8}
use Rattle.sp_ots.specs.Parameters as ots
use Rattle.sp_lms.specs.declared.param.LmsParam.{LmsParam}
use Rattle.sp_lms.specs.declared.param.LmsParam.TheVariants.{H5, H10, H15}
use Rattle.sp_lms.specs.Parameters.{typecode}
use Rattle.sp_lms.specs.Validity.{HasTypes}

same_tree : (a b : LmsParam) → typecode a ≡ typecode b → a ≡ b
same_tree H5 H5 e = refl
same_tree H5 H10 e = cc
same_tree H5 H15 e = cc
same_tree H10 H5 e = cc
same_tree H10 H10 e = refl
same_tree H10 H15 e = cc
same_tree H15 H5 e = cc
same_tree H15 H10 e = cc
same_tree H15 H15 e = refl

same_one_time : (a b : OtsParam) → ots.typecode a ≡ ots.typecode b → a ≡ b
same_one_time W1 W1 e = refl
same_one_time W1 W2 e = cc
same_one_time W1 W4 e = cc
same_one_time W1 W8 e = cc
same_one_time W2 W1 e = cc
same_one_time W2 W2 e = refl
same_one_time W2 W4 e = cc
same_one_time W2 W8 e = cc
same_one_time W4 W1 e = cc
same_one_time W4 W2 e = cc
same_one_time W4 W4 e = refl
same_one_time W4 W8 e = cc
same_one_time W8 W1 e = cc
same_one_time W8 W2 e = cc
same_one_time W8 W4 e = cc
same_one_time W8 W8 e = refl

-- the bytes of a public key have one pair of types
pub same_types : (a b : LmsParam) (c d : OtsParam) (public : List ℕ) → HasTypes a c public → HasTypes b d public → (a ≡ b) × (c ≡ d)
same_types a b c d public one other = (same_tree a b (sym one.tree_is ∙ other.tree_is), same_one_time c d (sym one.one_time_is ∙ other.one_time_is))
