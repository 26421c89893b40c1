-- The laws of every history of a key file.
use Rattle.std.specs.Prelude.{ℕ, ◌≡◌, ◌<◌, ◌≤◌, List, [], ◌∷◌}
use Rattle.std.specs.List.{Contains}
use Rattle.sp_lms.specs.declared.param.LmsParam.{LmsParam}
use Rattle.sp_hss.specs.KeyTree.{tree_key}
use Rattle.sp_hss.specs.Uses.{Rising, Signing, Use, uses}
use Rattle.sp_hss.specs.declared.tree.Tree.TheVariants.{Lower, Upper}
use Rattle.laws_keystate.specs.Starts.{signings_of}
use Rattle.laws_keystate.specs.Histories.{AllRise, IsHistory, IsSomeSound, Start, boots_in, formatted, signings_in}

-- the formatted file is sound, and so is each file that a start leaves
abbrev pub EveryFileIsSound : Type 0
EveryFileIsSound = (height : LmsParam) (seed : List ℕ) (starts : List Start) → IsHistory height seed starts
    → IsSomeSound formatted × ((start : Start) → Contains starts start → IsSomeSound start.left)

-- the indexes that are signed rise over the whole history, over all its starts
abbrev pub IndexesRise : Type 0
IndexesRise = (height : LmsParam) (seed : List ℕ) (starts : List Start) → IsHistory height seed starts → Rising 0 (signings_in starts)

-- so no index signs two messages
abbrev pub NoIndexSignsTwoMessages : Type 0
NoIndexSignsTwoMessages = (height : LmsParam) (seed : List ℕ) (starts : List Start) → IsHistory height seed starts
    → (a b : Signing) → Contains (signings_in starts) a → Contains (signings_in starts) b → a.index ≡ b.index → a.message ≡ b.message

-- nor does any one-time key, and upper leaf t signs the public key of lower tree t alone
abbrev pub NoKeySignsTwoMessages : Type 0
NoKeySignsTwoMessages = (height : LmsParam) (seed : List ℕ) (starts : List Start) → IsHistory height seed starts
    → (a b : Use) → Contains (uses height seed (signings_in starts)) a → Contains (uses height seed (signings_in starts)) b → a.leaf ≡ b.leaf
    → a.message ≡ b.message

-- the law that a leaf of the upper tree signs one lower key
abbrev pub AnUpperLeafSignsOneKey : Type 0
AnUpperLeafSignsOneKey = (height : LmsParam) (seed : List ℕ) (starts : List Start) → IsHistory height seed starts
    → (u : Use) → Contains (uses height seed (signings_in starts)) u → u.leaf.tree ≡ Upper → u.message ≡ tree_key height seed (Lower u.leaf.number)

-- a start signs from the bound that it found on, and below the last bound that a reserve gave it
abbrev pub AStartSignsWhatItReserved : Type 0
AStartSignsWhatItReserved = (height : LmsParam) (seed : List ℕ) (starts : List Start) → IsHistory height seed starts
    → (start : Start) → Contains starts start → (signing : Signing) → Contains (signings_of start.acts) signing
    → (start.begin.numbers.bound ≤ signing.index) × (signing.index < start.end.numbers.bound)

-- the boots that are taken rise over the whole history, so none is given twice
abbrev pub BootsRise : Type 0
BootsRise = (height : LmsParam) (seed : List ℕ) (starts : List Start) → IsHistory height seed starts → AllRise 0 (boots_in starts)

-- there are histories that sign: of each message one that signs it with index 0
abbrev pub AHistorySigns : Type 0
AHistorySigns = (height : LmsParam) (seed message : List ℕ)
    → (starts : List Start) × IsHistory height seed starts × (signings_in starts ≡ record { index = 0; message = message } ∷ [])
