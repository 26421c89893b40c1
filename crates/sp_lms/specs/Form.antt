-- What a check takes of a signature before it looks at the one-time signature in it, and the root that it comes to behind it.
use Rattle.std.specs.Prelude.{◌≡◌, ℕ, ◌+◌, ◌<◌, List, length}
use Rattle.sp_ots.specs.declared.param.OtsParam.{OtsParam}
use Rattle.sp_lms.specs.declared.param.LmsParam.{LmsParam}
use Rattle.sp_lms.specs.Parameters.{height, typecode, leaf_count, signature_len}
use Rattle.sp_lms.specs.Trees.{leaf_hash, ancestor}
use Rattle.sp_lms.specs.Validity.{leaf_of, path_of, typecode_of}

-- a signature has the length, the leaf and the typecode of one of a tree of these parameter sets
pub record HasForm (lms : LmsParam) (one_time : OtsParam) (signature : List ℕ) : Type 0 where
  pub length_is : length signature ≡ signature_len lms one_time
  pub leaf_is : leaf_of signature < leaf_count lms
  pub tree_is : typecode_of one_time signature ≡ typecode lms

-- the root to which the path of a signature leads from the leaf with this one-time public key
unfoldable pub root_above : LmsParam → OtsParam → List ℕ → List ℕ → List ℕ → List ℕ
root_above lms one_time id key signature =
    let r = leaf_count lms + leaf_of signature in
    ancestor id (path_of lms one_time signature) r (leaf_hash id r key) (height lms)
