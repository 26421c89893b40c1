-- Whether a signature is valid, as a yes or no on lists of bytes: each thing that validity asks for is tested where it stands.
use Rattle.std.specs.Prelude.{ℕ, ◌+◌, ◌==◌, ◌&&◌, ◌||◌, nat_eq, nat_lt, Bool, List, [], ◌∷◌, length, take, drop, slice_range}
use Rattle.std.specs.Cmp.Lexicographic.{pointwise}
use Rattle.std.specs.List.{list_any}
use Rattle.sp_ots.specs.declared.param.OtsParam.{OtsParam}
use Rattle.sp_ots.specs.declared.param.OtsParam.TheVariants.{W1, W2, W4, W8}
use Rattle.sp_ots.specs.Parameters as ots
use Rattle.sp_ots.specs.Strings.{u32str}
use Rattle.sp_lms.specs.declared.param.LmsParam.{LmsParam}
use Rattle.sp_lms.specs.declared.param.LmsParam.TheVariants.{H5, H10, H15}
use Rattle.sp_lms.specs.Numbers.{str_to_u32}
use Rattle.sp_lms.specs.Parameters.{leaf_count, signature_len, typecode}
use Rattle.sp_lms.specs.Validity.{candidate_root, id_of, leaf_of, one_time_of, root_of, typecode_of}
use Rattle.sp_hss.specs.Validity.{number_of}

abbrev pub all_trees : List LmsParam
all_trees = H5 ∷ H10 ∷ H15 ∷ []

-- the four parameter sets of one-time signatures
abbrev pub all_one_time : List OtsParam
all_one_time = W1 ∷ W2 ∷ W4 ∷ W8 ∷ []

-- some of the parameter sets passes
abbrev pub some_types : (LmsParam → OtsParam → Bool) → Bool
some_types test = list_any (λ lms. list_any (test lms) all_one_time) all_trees

-- whether two lists of bytes are the same
abbrev pub same_bytes : List ℕ → List ℕ → Bool
same_bytes xs ys = pointwise nat_eq xs ys

-- a public key of these parameter sets
abbrev pub has_types : LmsParam → OtsParam → List ℕ → Bool
has_types lms one_time public =
    (length public == 56) && ((str_to_u32 (slice_range public 0 4) == typecode lms) && (str_to_u32 (slice_range public 4 8) == ots.typecode one_time))

-- whether one tree's signature is valid under these types, this id and this root
abbrev pub is_valid_under : LmsParam → OtsParam → (id root message signature : List ℕ) → Bool
is_valid_under lms one_time id root message signature =
    (length signature == signature_len lms one_time)
    && (nat_lt (leaf_of signature) (leaf_count lms)
    && (same_bytes (take 4 (one_time_of one_time signature)) (u32str (ots.typecode one_time))
    && ((typecode_of one_time signature == typecode lms)
    && same_bytes root (candidate_root lms one_time id message signature))))

-- a signature by one tree of these parameter sets
abbrev pub is_by : LmsParam → OtsParam → (public message signature : List ℕ) → Bool
is_by lms one_time public message signature =
    has_types lms one_time public && is_valid_under lms one_time (id_of public) (root_of public) message signature

-- whether a signature is one tree's of any types
abbrev pub is_by_tree : (public message signature : List ℕ) → Bool
is_by_tree public message signature = some_types (λ lms one_time. is_by lms one_time public message signature)

-- an upper tree of these parameter sets signs the key of a lower tree, which signs the message: the upper signature's length says where it ends
abbrev pub is_by_two : LmsParam → OtsParam → (upper_key message signature : List ℕ) → Bool
is_by_two lms one_time upper_key message signature =
    let place = signature_len lms one_time in
    let lower_key = take 56 (drop place signature) in
    is_by lms one_time upper_key lower_key (take place signature) && is_by_tree lower_key message (drop (place + 56) signature)

-- whether a signature is one of two levels of any types
abbrev pub is_by_levels : (public message signature : List ℕ) → Bool
is_by_levels public message signature = some_types (λ lms one_time. is_by_two lms one_time public message signature)

-- a signature of one or two levels
unfoldable pub is_valid : (public message signature : List ℕ) → Bool
is_valid public message signature =
    ((number_of public == 1) && ((number_of signature == 0) && is_by_tree (drop 4 public) message (drop 4 signature)))
    || ((number_of public == 2) && ((number_of signature == 1) && is_by_levels (drop 4 public) message (drop 4 signature)))
