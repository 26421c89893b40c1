-- Runs of daemons on one key file, as their clauses tell them: a start is taken from the file, with whose first index the node may sign, and turns are made,
-- of which each reserves first where few indexes are left. The node signs meanwhile, and a crash at any moment may end it.
use Rattle.std.specs.Prelude.{ℕ, ◌≡◌, ◌≢◌, ◌+◌, ◌<◌, ◌≤◌, ◌^◌, ◌⊎◌, List, [], ◌∷◌, ◌++◌, length, slice_get, Option, None, Some}
use Rattle.sp_hss.specs.Uses.{Signing}
use Rattle.sp_keystate.specs.Starting.{KeepsAll, Starts}
use Rattle.sp_keystate.specs.declared.key_state.KeyState.{KeyState}
use Rattle.sp_keystate.specs.declared.refused.KeyRefused.{KeyRefused}
use Rattle.sp_keystate.specs.declared.starts.Started.{Started}
use Rattle.sp_keystate.specs.declared.starts.TheConstants.{RESERVED}
use Rattle.sp_outside.specs.Disk.{Disk, IsImage, still}
use Rattle.sp_service_turns.specs.Indexes.{AreReserved, reserved_by}
use Rattle.sp_service_turns.specs.Inputs.{Input, Reserve, Steps, Tick}
use Rattle.sp_service_turns.specs.Keys.{NoMore, Reserves}
use Rattle.sp_service_turns.specs.Outside.{KeptFile}
use Rattle.sp_service_turns.specs.Runs.{FileMovesOn, MovesOn, keys_on, polled_by}
use Rattle.sp_service_turns.specs.Turns.{Moves, Turn}
use Rattle.sp_service_turns.specs.declared.indexes.Indexes.{Indexes}
use Rattle.sp_service_turns.specs.declared.peer.Peer.{Peer}

-- ---- what a node signs

-- the next index is taken, where it isn't the bound, or none is
abbrev pub TakesNext : Indexes → Indexes → Type 0
TakesNext old new = (new ≡ old) ⊎ ((old.index ≢ old.bound) × (new ≡ record old { index = old.index + 1 }))

-- the next two are taken so, one after the other, or the next alone, or none
abbrev pub TakesTwo : Indexes → Indexes → Type 0
TakesTwo old new = (between : Indexes) × TakesNext old between × TakesNext between new

-- by what is asked: a reserve alone moves the bound, and a tick alone may take two
abbrev pub GoesOn : Input → Indexes → Indexes → Type 0
GoesOn (Reserve upto) old new = AreReserved old upto new
GoesOn (Tick now) old new = TakesTwo old new
GoesOn _ old new = TakesNext old new

-- a node that signs with one index after another, each below its bound
abbrev pub SignsInOrder : {N : Type 0} → Steps N → (N → Indexes) → Type 0
SignsInOrder {N} steps indexes = (old new : N) (input : Input) (answer : List ℕ) → steps old input answer new → GoesOn input (indexes old) (indexes new)

-- what is signed between two states: with an index that was taken one message, whichever it is
pub data SignsOne (old new : Indexes) : List Signing → Type 0 where
  Nothing_signed : new.index ≡ old.index → SignsOne old new []
  One_signed : (message : List ℕ) → new.index ≡ old.index + 1 → SignsOne old new (record { index = old.index; message = message } ∷ [])

-- and with two that were taken two
pub data SignsTwo (old new : Indexes) : List Signing → Type 0 where
  One_at_most : (signed : List Signing) → SignsOne old new signed → SignsTwo old new signed
  Two_signed : (first second : List ℕ) → new.index ≡ old.index + 2
      → SignsTwo old new (record { index = old.index; message = first } ∷ record { index = old.index + 1; message = second } ∷ [])

-- the indexes that a start gives
abbrev pub indexes_at : ℕ → Started → Indexes
indexes_at total started = record { index = started.first; bound = started.state.bound; total = total }

-- what is signed in a turn: at its tick, for a neighbour, for a client and at its poll
pub record SignsInTurn {N : Type 0} (steps : Steps N) (indexes : N → Indexes) (peers : List Peer) (polled : Option Peer) (t : Turn) (old new : N)
    (moves : Moves steps indexes peers polled t old new) (signed : List Signing) : Type 0 where
  pub at_tick : List Signing
  pub at_overlay : List Signing
  pub at_client : List Signing
  pub at_poll : List Signing
  pub tick : SignsTwo (indexes moves.after_reserve) (indexes moves.after_tick) at_tick
  pub overlay : SignsOne (indexes moves.after_tick) (indexes moves.after_overlay) at_overlay
  pub client : SignsOne (indexes moves.after_overlay) (indexes moves.after_client) at_client
  pub poll : SignsOne (indexes moves.after_client) (indexes new) at_poll
  pub together : signed ≡ at_tick ++ (at_overlay ++ (at_client ++ at_poll))

-- and in turns, from this one on
abbrev pub SignsOn : {N : Type 0} (steps : Steps N) (indexes : N → Indexes) (peers : List Peer) (turn : ℕ) (turns : List Turn) (old new : N)
    → MovesOn steps indexes peers turn turns old new → List Signing → Type 0
SignsOn steps indexes peers turn [] old new moves signed = signed ≡ []
SignsOn steps indexes peers turn (t ∷ ts) old new moves signed =
    (first : List Signing) × (rest : List Signing) × SignsInTurn steps indexes peers (polled_by peers turn) t old moves.0 moves.1 first
    × SignsOn steps indexes peers (turn + 1) ts moves.0 new moves.2 rest × (signed ≡ first ++ rest)

-- ---- a run so far

-- From a key file of these bytes, all on the disk, a daemon took a start, and made these turns. Its node signed this, at its start and then in the turns. The
-- file stands for these keys
pub record HasRun {N : Type 0} (steps : Steps N) (indexes : N → Indexes) (found : List ℕ) (signed : List Signing) (last : N) (keys : KeyState) (now : KeptFile)
    : Type 0 where
  pub total : ℕ
  pub few : total < 2 ^ 64
  pub started : Started
  pub begun : KeptFile
  pub starts : Starts (Some (still found)) begun.disk RESERVED total started
  pub start : N
  pub begins : TakesNext (indexes_at total started) (indexes start)
  pub at_start : List Signing
  pub announces : SignsOne (indexes_at total started) (indexes start) at_start
  pub peers : List Peer
  pub turns : List Turn
  pub moves : MovesOn steps indexes peers 0 turns start last
  pub in_turns : List Signing
  pub signs : SignsOn steps indexes peers 0 turns start last moves in_turns
  pub together : signed ≡ at_start ++ in_turns
  pub file : FileMovesOn started.state turns begun now
  pub keys_are : keys ≡ keys_on started.state turns
  pub serial : keys.serial < 2 ^ 64

-- ---- what a crash leaves of it

-- a crash at one of the moments that were added may leave this
pub record MayBeLeft (past now : Option (List Disk)) (image : List ℕ) : Type 0 where
  pub before : List Disk
  pub all : List Disk
  pub before_is : past ≡ Some before
  pub all_are : now ≡ Some all
  pub moment : ℕ
  pub later : length before ≤ moment
  pub disk : Disk
  pub there : slice_get all moment ≡ Some disk
  pub leaves : IsImage disk image

-- and a crash now this
abbrev pub IsLeftNow : Option Disk → List ℕ → Type 0
IsLeftNow None image = ⊥
IsLeftNow (Some disk) image = IsImage disk image

-- what a crash may leave in the turn that comes next: the file as it stands, an image of any moment of its reserve, the file after that, or an image of any
-- moment of a reserve that the file didn't give
pub data TurnLeaves (indexes : Indexes) (keys : KeyState) (now : KeptFile) (image : List ℕ) : Type 0 where
  As_it_stands : IsLeftNow now.disk image → TurnLeaves indexes keys now image
  In_its_reserve : (upto : ℕ) (after : KeptFile) → Some upto ≡ reserved_by indexes → Reserves keys upto now after → MayBeLeft now.past after.past image
      → TurnLeaves indexes keys now image
  After_its_reserve : (upto : ℕ) (after : KeptFile) → Some upto ≡ reserved_by indexes → Reserves keys upto now after → IsLeftNow after.disk image
      → TurnLeaves indexes keys now image
  Without_reserve : (refused : KeyRefused) (after : KeptFile) → NoMore indexes keys refused now after → MayBeLeft now.past after.past image
      → TurnLeaves indexes keys now image

-- A run on a file of these bytes, all on the disk, was stopped: its node had signed this at its start and in its whole turns, and this is left. What it signed
-- in a turn that broke off was never sent
pub data IsStopped {N : Type 0} (steps : Steps N) (indexes : N → Indexes) (found : List ℕ) : (signed : List Signing) (left : List ℕ) → Type 0 where
  -- while its start was taken: no node had begun
  At_start : (left : List ℕ) (past now : Option (List Disk)) → KeepsAll (Some (still found)) past now → MayBeLeft past now left
      → IsStopped steps indexes found [] left
  -- in a turn, or after the last
  In_turns : (signed : List Signing) (left : List ℕ) (last : N) (keys : KeyState) (now : KeptFile) → HasRun steps indexes found signed last keys now
      → TurnLeaves (indexes last) keys now left → IsStopped steps indexes found signed left

-- ---- runs one after another

-- what the node of a run signed, at its start too, and the file that it left
pub record Run : Type 0 where
  pub signed : List Signing
  pub left : List ℕ

-- each on what a crash left of the one before, the first on this file
abbrev pub RunsFollow : {N : Type 0} → Steps N → (N → Indexes) → List ℕ → List Run → Type 0
RunsFollow steps indexes found [] = Unit {0}
RunsFollow steps indexes found (run ∷ runs) = IsStopped steps indexes found run.signed run.left × RunsFollow steps indexes run.left runs

-- all that was signed, in order
abbrev pub signed_in : List Run → List Signing
signed_in [] = []
signed_in (run ∷ runs) = run.signed ++ signed_in runs
