-- A history of the key states of a world: starts and reserves of its nodes, one after another in any order, each of any total. What they gave to a node.
use Rattle.std.specs.Prelude.{ℕ, ◌≡◌, ◌<◌, ◌≤◌, ◌==◌, List, [], ◌∷◌, replicate, Result, Ok, Err, if◌then◌else◌}
use Rattle.sp_base.specs.declared.id.NodeId.{NodeId}
use Rattle.sp_keystate.specs.declared.numbers.Numbers.{Numbers}
use Rattle.sp_keystate.specs.States.{first_numbers}
use Rattle.sp_epoch.specs.declared.started.Started.{Started}
use Rattle.sp_epoch.specs.declared.refused.EpochRefused.{EpochRefused}
use Rattle.sp_epoch.specs.Numbers.{IsOneOf, numbers_at}
use Rattle.sp_epoch.specs.Calls.{Reserves, Starts}

-- a call that returned: its total, its node, and what it answered. Of a reserve, `index` is the bound that the node had before
pub data Call : Type 0 where
  Start : (total : ℕ) (u : NodeId) (answer : Result Started EpochRefused) → Call
  More : (total : ℕ) (u : NodeId) (index bound : ℕ) → Call

-- It leads from these numbers to those. Its clause says so, and what it requires of the node and its bound was there
abbrev pub Does : (old : List Numbers) → Call → (new : List Numbers) → Type 0
Does old (Start total u answer) new = IsOneOf old u × Starts total u old new answer
Does old (More total u index bound) new =
    IsOneOf old u × (index ≡ (numbers_at old u).bound) × (index < total) × Reserves total u old new bound

-- the numbers of all nodes after so many calls, one after another
pub data DoesAll : List Numbers → List Call → List Numbers → Type 0 where
  Nothing_more : (all : List Numbers) → DoesAll all [] all
  And_then : (old between new : List Numbers) (call : Call) (calls : List Call) → Does old call between → DoesAll between calls new
      → DoesAll old (call ∷ calls) new

-- from the day that the key states of so many nodes were made
abbrev pub IsHistory : (nodes : ℕ) → List Call → Type 0
IsHistory nodes calls = (now : List Numbers) × DoesAll (replicate nodes first_numbers) calls now

-- ---- what they gave to a node

-- the indexes from the first on, below the second
abbrev pub Range : Type 0
Range = ℕ × ℕ

-- the boot that an answer gives, if it gives one, before the later ones
abbrev pub boots_by : Result Started EpochRefused → List ℕ → List ℕ
boots_by (Ok started) later = started.boot ∷ later
boots_by (Err refused) later = later

-- the indexes that an answer gives, if it gives some, before the later ones
abbrev pub ranges_by : Result Started EpochRefused → List Range → List Range
ranges_by (Ok started) later = (started.index, started.bound) ∷ later
ranges_by (Err refused) later = later

-- its boots, in order
abbrev pub boots_of : NodeId → List Call → List ℕ
boots_of v [] = []
boots_of v (Start total u answer ∷ calls) = if u.0 == v.0 then boots_by answer (boots_of v calls) else boots_of v calls
boots_of v (More total u index bound ∷ calls) = boots_of v calls

-- its indexes, in order
abbrev pub ranges_of : NodeId → List Call → List Range
ranges_of v [] = []
ranges_of v (Start total u answer ∷ calls) = if u.0 == v.0 then ranges_by answer (ranges_of v calls) else ranges_of v calls
ranges_of v (More total u index bound ∷ calls) = if u.0 == v.0 then (index, bound) ∷ ranges_of v calls else ranges_of v calls

-- each boot is above the one before, and the first above this one
abbrev pub BootsRise : ℕ → List ℕ → Type 0
BootsRise above [] = Unit {0}
BootsRise above (boot ∷ boots) = (above < boot) × BootsRise boot boots

-- each range has an index, and begins no lower than the one before it ended, and the first no lower than this
abbrev pub RangesRise : ℕ → List Range → Type 0
RangesRise least [] = Unit {0}
RangesRise least ((index, bound) ∷ ranges) = (least ≤ index) × (index < bound) × RangesRise bound ranges
