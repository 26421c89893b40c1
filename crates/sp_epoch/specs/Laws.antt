-- The laws of every history of the key states of a world.
use Rattle.std.specs.Prelude.{ℕ, List, [], ◌∷◌, Ok, Err}
use Rattle.sp_base.specs.declared.id.NodeId.{NodeId}
use Rattle.sp_epoch.specs.declared.refused.EpochRefused.TheVariants.{Exhausted}
use Rattle.sp_epoch.specs.Histories.{BootsRise, Call, IsHistory, More, RangesRise, Start, boots_of, ranges_of}

-- the boots of each node rise, and so do the ranges of its indexes: no boot is given twice, and no index stands in two ranges
abbrev pub NothingIsGivenTwice : Type 0
NothingIsGivenTwice = (nodes : ℕ) (calls : List Call) → IsHistory nodes calls → (v : NodeId)
    → BootsRise 0 (boots_of v calls) × RangesRise 0 (ranges_of v calls)

-- node 1
abbrev pub node_1 : NodeId
node_1 = record { 0 = 1 }

-- node 1 has a key of 70 indexes: boot 1 gets 32 of them and then 32 more, boot 2 the 6 that are left, and then there is none
abbrev pub some_calls : List Call
some_calls =
    Start 70 node_1 (Ok (record { boot = 1; index = 0; bound = 32 }))
    ∷ More 70 node_1 32 64
    ∷ Start 70 node_1 (Ok (record { boot = 2; index = 64; bound = 70 }))
    ∷ Start 70 node_1 (Err (Exhausted 70))
    ∷ []

-- that is the history of a world of one node
abbrev pub SomeCallsAreAHistory : Type 0
SomeCallsAreAHistory = IsHistory 1 some_calls
