-- The two levels of keys that a seed of 32 bytes gives, and what they sign (RFC 8554, section 6, with L = 2 and w = 4).
--
--             upper tree              its leaf t signs the public key of lower tree t
--        /    |    ..    \
--    tree 0  tree 1  ..  tree 2^h-1   leaf q of lower tree t signs the message with the index 2^h t + q
use Rattle.std.specs.Prelude.{ℕ, ◌+◌, ◌*◌, ◌/◌, ◌%◌, List, ◌++◌, take, codes}
use Rattle.sp_hmac.specs.Hmac.{hmac}
use Rattle.sp_ots.specs.declared.param.OtsParam.TheVariants.{W4}
use Rattle.sp_ots.specs.Strings.{u8str, u32str}
use Rattle.sp_lms.specs.declared.param.LmsParam.{LmsParam}
use Rattle.sp_lms.specs.Parameters.{leaf_count}
use Rattle.sp_lms.specs.Parameters as lms
use Rattle.sp_lms.specs.Keys as keys
use Rattle.sp_hss.specs.declared.tree.Tree.{Tree}
use Rattle.sp_hss.specs.declared.tree.Tree.TheVariants.{Upper, Lower}

-- the name of a tree: 0, or 1 and the number of the lower tree
abbrev pub name : Tree → List ℕ
name Upper = u8str 0
name (Lower t) = u8str 1 ++ u32str t

-- the seed of a tree
unfoldable pub tree_seed : List ℕ → Tree → List ℕ
tree_seed seed tree = hmac seed (codes "S" ++ name tree)

-- the id of a tree: I
unfoldable pub tree_id : List ℕ → Tree → List ℕ
tree_id seed tree = take 16 (hmac seed (codes "I" ++ name tree))

-- the public key of a tree
abbrev pub tree_key : LmsParam → List ℕ → Tree → List ℕ
tree_key h seed tree = keys.public_key h W4 (tree_id seed tree) (tree_seed seed tree)

-- the signature of a message by leaf q of a tree
abbrev pub tree_signature : LmsParam → List ℕ → Tree → ℕ → List ℕ → List ℕ
tree_signature h seed tree q message = keys.signature h W4 (tree_id seed tree) (tree_seed seed tree) q message

-- how many messages the seed may sign: 2^(2 h)
abbrev pub total : LmsParam → ℕ
total h = leaf_count h * leaf_count h

-- the public key: the number of levels, and the public key of the upper tree (section 6.1)
unfoldable pub public_key : LmsParam → List ℕ → List ℕ
public_key h seed = u32str 2 ++ tree_key h seed Upper

-- what all signatures by lower tree t begin with: one level less, and the tree's public key after its signature (section 6.2)
unfoldable pub front_of : LmsParam → List ℕ → ℕ → List ℕ
front_of h seed t =
    let lower_key = tree_key h seed (Lower t) in
    u32str 1 ++ tree_signature h seed Upper t lower_key ++ lower_key

-- the signature of a message with an index (section 6.2)
unfoldable pub signature : LmsParam → List ℕ → ℕ → List ℕ → List ℕ
signature h seed index message =
    let t = index / leaf_count h in
    front_of h seed t ++ tree_signature h seed (Lower t) (index % leaf_count h) message

-- the bytes of what signatures begin with, and of a signature
abbrev pub front_len : LmsParam → ℕ
front_len h = 4 + lms.signature_len h W4 + 56

-- how long each signature under a key of this height is
abbrev pub signature_len : LmsParam → ℕ
signature_len h = front_len h + lms.signature_len h W4
