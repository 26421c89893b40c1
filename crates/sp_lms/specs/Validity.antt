-- What it means that a signature is valid under the public key of a tree (RFC 8554, section 5.4.2).
--
--    public key   4 typecode of the tree | 4 of the one-time signature | 16 id | 32 root
--    signature    4 number of the leaf | one-time signature | 4 typecode of the tree | 32 for each level of the path
use Rattle.std.specs.Prelude.{◌≡◌, ℕ, ◌+◌, ◌<◌, List, length, drop, slice_range}
use Rattle.std.specs.Simd.{first_chunks}
use Rattle.sp_ots.specs.declared.param.OtsParam.{OtsParam}
use Rattle.sp_ots.specs.Parameters as ots
use Rattle.sp_ots.specs.Candidate.{HasTypecode, candidate_key}
use Rattle.sp_lms.specs.declared.param.LmsParam.{LmsParam}
use Rattle.sp_lms.specs.Numbers.{str_to_u32}
use Rattle.sp_lms.specs.Parameters.{height, typecode, leaf_count, signature_len}
use Rattle.sp_lms.specs.Trees.{leaf_hash, ancestor}

-- a public key of these parameter sets (section 5.3)
pub record HasTypes (lms : LmsParam) (one_time : OtsParam) (public : List ℕ) : Type 0 where
  pub length_is : length public ≡ 56
  pub tree_is : str_to_u32 (slice_range public 0 4) ≡ typecode lms
  pub one_time_is : str_to_u32 (slice_range public 4 8) ≡ ots.typecode one_time

-- the tree's id in a public key: I
abbrev pub id_of : List ℕ → List ℕ
id_of public = slice_range public 8 24

-- the root in a public key: T[1]
abbrev pub root_of : List ℕ → List ℕ
root_of public = slice_range public 24 56

-- the number of the leaf that made a signature: q
abbrev pub leaf_of : List ℕ → ℕ
leaf_of signature = str_to_u32 (slice_range signature 0 4)

-- the one-time signature in a signature
abbrev pub one_time_of : OtsParam → List ℕ → List ℕ
one_time_of one_time signature = slice_range signature 4 (4 + ots.signature_len one_time)

-- the number after it, which is the typecode of the tree
abbrev pub typecode_of : OtsParam → List ℕ → ℕ
typecode_of one_time signature =
    str_to_u32 (slice_range signature (4 + ots.signature_len one_time) (8 + ots.signature_len one_time))

-- the path at the end of a signature: a hash of 32 bytes for each level
abbrev pub path_of : LmsParam → OtsParam → List ℕ → List (List ℕ)
path_of lms one_time signature = first_chunks 32 (height lms) (drop (8 + ots.signature_len one_time) signature)

-- the root under which the signature is one of the message, if its form is right: Tc (algorithm 6a)
unfoldable pub candidate_root : LmsParam → OtsParam → List ℕ → List ℕ → List ℕ → List ℕ
candidate_root lms one_time id message signature =
    let q = leaf_of signature in
    let r = leaf_count lms + q in
    let key = candidate_key one_time id q message (one_time_of one_time signature) in
    ancestor id (path_of lms one_time signature) r (leaf_hash id r key) (height lms)

-- a signature is valid for a message under the root of the tree with this id (algorithm 6)
pub record IsValidUnder (lms : LmsParam) (one_time : OtsParam) (id root message signature : List ℕ) : Type 0 where
  pub length_is : length signature ≡ signature_len lms one_time
  pub leaf_is : leaf_of signature < leaf_count lms
  pub one_time_is : HasTypecode one_time (one_time_of one_time signature)
  pub tree_is : typecode_of one_time signature ≡ typecode lms
  pub root_is : root ≡ candidate_root lms one_time id message signature

-- a signature is valid for a message under a public key (algorithm 6)
abbrev pub IsValid : List ℕ → List ℕ → List ℕ → Type 0
IsValid public message signature = (lms : LmsParam) × (one_time : OtsParam) × HasTypes lms one_time public
    × IsValidUnder lms one_time (id_of public) (root_of public) message signature
