-- Chains that are on their way, each in a lane: what the lanes hold, and what stands in the place of each element.
use Rattle.std.specs.Prelude.{◌≡◌, ℕ, ◌+◌, ◌-◌, ◌*◌, ◌/◌, ◌<◌, ◌≤◌, ◌≢◌, ◌⊎◌, List, [], ◌++◌, length, sum, slice_index, slice_index_or}
use Rattle.sp_ots.specs.Lanes.{lanes}
use Rattle.sp_ots.specs.declared.lanes.Lanes.{Lanes}
use Rattle.sp_ots.specs.Strings.{u8str}
use Rattle.sp_ots.specs.TwoLeaves.{element_at}

-- how many steps chain i has
abbrev pub steps_of : (from to : List ℕ) → ℕ → ℕ
steps_of from to i = slice_index to i - slice_index from i

-- chain i is taken in the turn of those with at most `most` steps, and more than a third as many
pub record IsInTurn (from to : List ℕ) (most i : ℕ) : Type 0 where
  pub low : most / 3 < steps_of from to i
  pub high : steps_of from to i ≤ most

-- chain i was taken in a turn before, or in this one, where `next` is the first that is left
abbrev pub IsTaken : (from to : List ℕ) → (most next : ℕ) → ℕ → Type 0
IsTaken from to most next i = (most < steps_of from to i) ⊎ (IsInTurn from to most i × (i < next))

-- chain i is left
pub record IsLeft (from to : List ℕ) (most next i : ℕ) : Type 0 where
  pub high : steps_of from to i ≤ most
  pub later : most / 3 < steps_of from to i → next ≤ i

-- a lane holds a chain that was taken, with steps left, and the message of its next step
pub record IsHeld (front : ℕ → List ℕ) (from to : List ℕ) (elements : List (List ℕ)) (most next chain left : ℕ)
    (message : List ℕ) : Type 0 where
  pub within : chain < length elements
  pub taken : IsTaken from to most next chain
  pub steps : slice_index from chain + left ≤ slice_index to chain
  pub message_is : message ≡ front chain ++ u8str (slice_index to chain - left)
      ++ element_at front from elements chain (slice_index to chain - left)

-- of the chains that began with the elements `old`, each that was taken is in a lane, or at its end in `now`; those that are left stand
-- in `now` as they began
pub record AreUnderWay (front : ℕ → List ℕ) (from to : List ℕ) (old now : List (List ℕ)) (l : Lanes) : Type 0 where
  pub whole : length now ≡ length old
  pub chains : length l.chains ≡ lanes
  pub left : length l.left ≡ lanes
  pub messages : length l.messages ≡ lanes
  pub held : (k : ℕ) → 0 < slice_index l.left k
      → IsHeld front from to old l.most l.next (slice_index l.chains k) (slice_index l.left k) (slice_index_or l.messages k [])
  pub ended : (i : ℕ) → i < length old → IsTaken from to l.most l.next i → ((k : ℕ) → 0 < slice_index l.left k → slice_index l.chains k ≢ i)
      → slice_index_or now i [] ≡ element_at front from old i (slice_index to i)
  pub waiting : (i : ℕ) → IsLeft from to l.most l.next i → slice_index_or now i [] ≡ slice_index_or old i []

-- each lane that is not idle holds one of the chains, with no more steps than it has
abbrev pub IsSound : List ℕ → Lanes → Type 0
IsSound to l = (k : ℕ) → 0 < slice_index l.left k
    → (slice_index l.chains k < length to) × (slice_index l.left k ≤ slice_index to (slice_index l.chains k))

-- a lane is idle only where no chain is left that has steps
abbrev pub AreFull : Lanes → Type 0
AreFull l = (k : ℕ) → k < lanes → slice_index l.left k ≡ 0 → l.most ≡ 0

-- no less than all steps that are still to be made by n chains: every round takes from it
abbrev pub work_left : ℕ → Lanes → ℕ
work_left n l = 256 * (65537 * l.most + (n - l.next)) + sum l.left
