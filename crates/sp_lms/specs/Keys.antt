-- The key pair that a seed gives, and its signatures (RFC 8554, sections 5.2 to 5.4 and appendix A).
use Rattle.std.specs.Prelude.{ℕ, ◌+◌, ◌-◌, List, ◌++◌}
use Rattle.std.specs.List.{concat}
use Rattle.sp_ots.specs.declared.param.OtsParam.{OtsParam}
use Rattle.sp_ots.specs.Parameters as ots
use Rattle.sp_ots.specs.Strings.{u32str}
use Rattle.sp_ots.specs.Keys as one_time_keys
use Rattle.sp_ots.specs.Signature as one_time_signatures
use Rattle.sp_lms.specs.declared.param.LmsParam.{LmsParam}
use Rattle.sp_lms.specs.Parameters.{height, typecode, leaf_count}
use Rattle.sp_lms.specs.Trees.{leaf_hash, tree_node, path}

-- node r of the seed's tree, where r is the node of a leaf: leaf q has the number 2^h + q
unfoldable pub seed_leaf : LmsParam → OtsParam → List ℕ → List ℕ → ℕ → List ℕ
seed_leaf lms one_time id seed r = leaf_hash id r (one_time_keys.public_key one_time id (r - leaf_count lms) seed)

-- the root of the seed's tree: T[1]
abbrev pub root : LmsParam → OtsParam → List ℕ → List ℕ → List ℕ
root lms one_time id seed = tree_node id (seed_leaf lms one_time id seed) (height lms) 1

-- the public key: both typecodes, the tree's id and its root (section 5.3)
unfoldable pub public_key : LmsParam → OtsParam → List ℕ → List ℕ → List ℕ
public_key lms one_time id seed =
    u32str (typecode lms) ++ u32str (ots.typecode one_time) ++ id ++ root lms one_time id seed

-- the signature of a message by leaf q: its number, its one-time signature, the typecode and its path (section 5.4.1)
unfoldable pub signature : LmsParam → OtsParam → List ℕ → List ℕ → ℕ → List ℕ → List ℕ
signature lms one_time id seed q message =
    u32str q ++ one_time_signatures.signature one_time id q seed message ++ u32str (typecode lms)
    ++ concat (path id (seed_leaf lms one_time id seed) (height lms) (leaf_count lms + q))
