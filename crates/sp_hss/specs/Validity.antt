-- What it means that a signature of one or two levels is valid (RFC 8554, section 6.3).
--
--    public key    4 levels | 56 public key of the upper tree
--    signature     4 levels less one | signature by the upper tree | and at two levels: 56 public key of the lower tree | its signature
use Rattle.std.specs.Prelude.{◌≡◌, ◌⊎◌, ℕ, List, ◌++◌, drop, slice_range}
use Rattle.sp_lms.specs.Numbers.{str_to_u32}
use Rattle.sp_lms.specs.Validity as tree

-- the number that a public key or a signature begins with
abbrev pub number_of : List ℕ → ℕ
number_of bytes = str_to_u32 (slice_range bytes 0 4)

-- the upper tree signs the public key of a lower tree, which signs the message
pub record IsSignedThrough (upper lower_key lower : List ℕ) (upper_key message signature : List ℕ) : Type 0 where
  pub parts : signature ≡ upper ++ lower_key ++ lower
  pub upper_valid : tree.IsValid upper_key lower_key upper
  pub lower_valid : tree.IsValid lower_key message lower

-- some lower tree does so
abbrev pub IsSignedBelow : List ℕ → List ℕ → List ℕ → Type 0
IsSignedBelow upper_key message signature =
    (upper : List ℕ) × (lower_key : List ℕ) × (lower : List ℕ) × IsSignedThrough upper lower_key lower upper_key message signature

-- a signature by the one tree itself
pub record IsValidAtOneLevel (public message signature : List ℕ) : Type 0 where
  pub levels : number_of public ≡ 1
  pub levels_below : number_of signature ≡ 0
  pub signed : tree.IsValid (drop 4 public) message (drop 4 signature)

-- a signature by a lower tree
pub record IsValidAtTwoLevels (public message signature : List ℕ) : Type 0 where
  pub levels : number_of public ≡ 2
  pub levels_below : number_of signature ≡ 1
  pub signed : IsSignedBelow (drop 4 public) message (drop 4 signature)

-- a signature is valid for a message under a public key of one or two levels
abbrev pub IsValid : List ℕ → List ℕ → List ℕ → Type 0
IsValid public message signature =
    IsValidAtOneLevel public message signature ⊎ IsValidAtTwoLevels public message signature
