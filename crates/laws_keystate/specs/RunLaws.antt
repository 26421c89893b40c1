-- The laws of runs of daemons on one key file, of any node that signs in order.
use Rattle.std.specs.Prelude.{ℕ, ◌≡◌, ◌<◌, ◌^◌, List, [], ◌∷◌, Option, Some}
use Rattle.std.specs.List.{Contains}
use Rattle.sp_hss.specs.Uses.{Rising, Signing}
use Rattle.sp_keystate.specs.declared.starts.Started.{Started}
use Rattle.sp_lms.specs.declared.param.LmsParam.{LmsParam}
use Rattle.sp_outside.specs.Disk.{still}
use Rattle.sp_service_turns.specs.Inputs.{Reserve, Steps, Tick}
use Rattle.sp_service_turns.specs.Outside.{Outside}
use Rattle.sp_service_turns.specs.Served.{EndsTurns, IsOpened, opening_of}
use Rattle.sp_service_turns.specs.Turns.{Moves, Turn}
use Rattle.sp_service_turns.specs.declared.indexes.Indexes.{Indexes}
use Rattle.sp_service_turns.specs.declared.opened.Ports.{Ports}
use Rattle.sp_service_turns.specs.declared.peer.Peer.{Peer}
use Rattle.sp_service_turns.specs.declared.served.Served.{Served}
use Rattle.laws_keystate.specs.Histories.{IsHistory, IsSomeSound, IsStart, Start, formatted, signings_in}
use Rattle.laws_keystate.specs.RunMoments.{LeavesBetween, LeavesTurns}
use Rattle.laws_keystate.specs.Runs.{IsStopped, Run, RunsFollow, SignsInOrder, SignsInTurn, SignsOne, TakesNext, TakesTwo, indexes_at, signed_in}
use Rattle.laws_keystate.specs.Starts.{signings_of}

-- a run on a sound file, stopped at any moment, is one start of a history: its node signed what the start signs, and it left what the start leaves
abbrev pub ARunIsAStart : {N : Type 0} → Steps N → (N → Indexes) → Type 0
ARunIsAStart {N} steps indexes = SignsInOrder steps indexes
    → (height : LmsParam) (seed found : List ℕ) (signed : List Signing) (left : List ℕ) → IsSomeSound found → IsStopped steps indexes found signed left
    → (start : Start) × IsStart height seed found start × (signings_of start.acts ≡ signed) × (start.left ≡ left)

-- so runs one after another on a file that was formatted are a history
abbrev pub RunsAreAHistory : {N : Type 0} → Steps N → (N → Indexes) → Type 0
RunsAreAHistory {N} steps indexes = SignsInOrder steps indexes → (height : LmsParam) (seed : List ℕ) (runs : List Run) → RunsFollow steps indexes formatted runs
    → (starts : List Start) × IsHistory height seed starts × (signings_in starts ≡ signed_in runs)

-- the indexes that their nodes sign with rise, from run to run, so no index signs two messages
abbrev pub NoRunSignsAgain : {N : Type 0} → Steps N → (N → Indexes) → Type 0
NoRunSignsAgain {N} steps indexes = SignsInOrder steps indexes → (runs : List Run) → RunsFollow steps indexes formatted runs
    → Rising 0 (signed_in runs)
    × ((a b : Signing) → Contains (signed_in runs) a → Contains (signed_in runs) b → a.index ≡ b.index → a.message ≡ b.message)

-- a node of nothing but its indexes, which may sign at its ticks
abbrev pub sign_at_ticks : Steps Indexes
sign_at_ticks old (Reserve upto) answer new = new ≡ record old { bound = upto }
sign_at_ticks old (Tick now) answer new = TakesTwo old new
sign_at_ticks old _ answer new = new ≡ old

-- the indexes that the law asks for are all there is
abbrev pub indexes_of : Indexes → Indexes
indexes_of i = i

-- there are runs that sign: with such a node, of each message one on a file that was formatted, which signs it with index 0; of each two one that signs the
-- first at its start and the other in its turn; and of each three one that signs the last two in its turn
abbrev pub ARunSigns : Type 0
ARunSigns = SignsInOrder sign_at_ticks indexes_of
    × ((message : List ℕ) → (left : List ℕ) × IsStopped sign_at_ticks indexes_of formatted (record { index = 0; message = message } ∷ []) left)
    × ((first second : List ℕ) → (left : List ℕ) × IsStopped sign_at_ticks indexes_of formatted
    (record { index = 0; message = first } ∷ record { index = 1; message = second } ∷ []) left)
    × ((first second third : List ℕ) → (left : List ℕ) × IsStopped sign_at_ticks indexes_of formatted
    (record { index = 0; message = first } ∷ record { index = 1; message = second } ∷ record { index = 2; message = third } ∷ []) left)

-- ---- what a daemon promises

-- A daemon whose node signs in order, on a sound file that is all on the disk, and took the next of its start's indexes, or none. Whatever a crash may leave
-- until its start is taken, a run leaves that signed nothing; and at each later moment to its end, one that signed what its node had signed at its start, with
-- whatever message, and in its whole turns
abbrev pub EachMomentIsOfARun : {N : Type 0} → Steps N → (N → Indexes) → Type 0
EachMomentIsOfARun {N} steps indexes =
    SignsInOrder steps indexes → (ports : Ports) (total : ℕ) (found : List ℕ) (started : Started) (peers : List Peer) (count : ℕ) (start : N) (ended : Served)
    (before between after : Outside) → total < 2 ^ 64 → before.file.disk ≡ Some (still found) → IsSomeSound found → IsOpened ports total started before between
    → TakesNext (indexes_at total started) (indexes start)
    → (ends : EndsTurns steps indexes peers (opening_of started) count start started.state between after ended)
    → LeavesBetween steps indexes found [] before.file between.file
    × ((signed : List Signing) → SignsOne (indexes_at total started) (indexes start) signed
    → LeavesTurns steps indexes found signed peers (opening_of started) count start started.state between after ended ends)

-- at the start of such a node something is signed, or nothing
abbrev pub StartsSign : Type 0
StartsSign = (total : ℕ) (started : Started) (start : Indexes) → TakesNext (indexes_at total started) start
    → (signed : List Signing) × SignsOne (indexes_at total started) start signed

-- and so in each of its turns
abbrev pub TurnsSign : {N : Type 0} → Steps N → (N → Indexes) → Type 0
TurnsSign {N} steps indexes = SignsInOrder steps indexes → (peers : List Peer) (polled : Option Peer) (t : Turn) (old new : N)
    (moves : Moves steps indexes peers polled t old new) → (signed : List Signing) × SignsInTurn steps indexes peers polled t old new moves signed
