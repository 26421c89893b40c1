-- The laws of what a seed signs: its signatures are valid, and over its life no one-time key signs two messages.
use Rattle.std.specs.Prelude.{◌≡◌, ◌≢◌, ◌↔◌, IsTrue, ℕ, ◌/◌, ◌<◌, List, ◌++◌}
use Rattle.std.specs.List.{Contains}
use Rattle.sp_ots.specs.Strings.{u32str}
use Rattle.sp_lms.specs.declared.param.LmsParam.{LmsParam}
use Rattle.sp_lms.specs.Parameters.{leaf_count}
use Rattle.sp_hss.specs.KeyTree.{tree_key, public_key, signature, total}
use Rattle.sp_hss.specs.Decision.{is_valid}
use Rattle.sp_hss.specs.Validity.{IsValid}
use Rattle.sp_hss.specs.Uses.{Use, Signing, leaf_of_index, upper_use, lower_use, made_by, uses, Rising}
use Rattle.sp_hss.specs.declared.tree.Tree.TheVariants.{Upper, Lower}

-- at every index the signature is valid under the seed's public key
abbrev pub SeedSignaturesAreValid : Type 0
SeedSignaturesAreValid = (height : LmsParam) (seed message : List ℕ) (index : ℕ) → index < total height
    → IsValid (public_key height seed) message (signature height seed index message)

-- a signature is made by its two leaves: one level less than two, the key of a lower tree after its signature, and the message's signature
abbrev pub TwoLeavesMakeASignature : Type 0
TwoLeavesMakeASignature = (height : LmsParam) (seed : List ℕ) (signing : Signing) →
    (let upper = upper_use height seed (signing.index / leaf_count height) in
    signature height seed signing.index signing.message
    ≡ u32str 1 ++ made_by height seed upper ++ upper.message ++ made_by height seed (lower_use height signing))

-- two indexes sign their messages with two leaves: of two lower trees, or two of the same
abbrev pub TwoIndexesHaveTwoLeaves : Type 0
TwoIndexesHaveTwoLeaves = (height : LmsParam) (i j : ℕ) → i ≢ j → leaf_of_index height i ≢ leaf_of_index height j

-- whatever is signed, upper leaf t signs one message: the key of lower tree t
abbrev pub AnUpperLeafSignsOneMessage : Type 0
AnUpperLeafSignsOneMessage = (height : LmsParam) (seed : List ℕ) (signings : List Signing) (u : Use) → Contains (uses height seed signings) u
    → u.leaf.tree ≡ Upper → u.message ≡ tree_key height seed (Lower u.leaf.number)

-- where the indexes rise, no leaf signs two messages
abbrev pub NoLeafSignsTwoMessages : Type 0
NoLeafSignsTwoMessages = (height : LmsParam) (seed : List ℕ) (signings : List Signing) → Rising 0 signings
    → (a b : Use) → Contains (uses height seed signings) a → Contains (uses height seed signings) b → a.leaf ≡ b.leaf → a.message ≡ b.message

-- the yes or no on bytes says yes exactly where the signature is valid
abbrev pub ValidIsDecided : Type 0
ValidIsDecided = (public message signature : List ℕ) → IsTrue (is_valid public message signature) ↔ IsValid public message signature
