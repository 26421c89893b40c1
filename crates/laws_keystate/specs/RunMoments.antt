-- What a crash may leave at each moment of a daemon: a run so far leaves it, which signed what the daemon's node had signed at its start and in whole turns.
use Rattle.std.specs.Prelude.{ℕ, ◌+◌, List, [], ◌∷◌, ◌++◌}
use Rattle.sp_hss.specs.Uses.{Signing}
use Rattle.sp_keystate.specs.declared.key_state.KeyState.{KeyState}
use Rattle.sp_outside.specs.Moments.{AllSince}
use Rattle.sp_recording.specs.declared.line.Opening.{Opening}
use Rattle.sp_service_turns.specs.Daemons.{EndsAfter, Stopped, Whole}
use Rattle.sp_service_turns.specs.Inputs.{Steps}
use Rattle.sp_service_turns.specs.Keys.{keys_after}
use Rattle.sp_service_turns.specs.Outside.{KeptFile, Outside}
use Rattle.sp_service_turns.specs.Runs.{FileMovesOn, MovesOn, polled_by}
use Rattle.sp_service_turns.specs.Served.{Begun, EndsTurns, Unbegun}
use Rattle.sp_service_turns.specs.Turns.{Turn}
use Rattle.sp_service_turns.specs.declared.indexes.Indexes.{Indexes}
use Rattle.sp_service_turns.specs.declared.peer.Peer.{Peer}
use Rattle.sp_service_turns.specs.declared.served.Served.{Served}
use Rattle.laws_keystate.specs.Runs.{IsStopped, SignsInTurn}

-- at the moments between two states of the file a run so far was stopped, which signed this
abbrev pub LeavesBetween : {N : Type 0} → Steps N → (N → Indexes) → (found : List ℕ) (signed : List Signing) (now after : KeptFile) → Type 0
LeavesBetween steps indexes found signed now after = AllSince now.past after.past (IsStopped steps indexes found signed)

-- In these turns and in what came after them, where this was signed before: in a turn what was signed in the turns before it, with whatever messages, and after
-- the last what was signed in all of them
abbrev pub LeavesOn : {N : Type 0} (steps : Steps N) (indexes : N → Indexes) (found : List ℕ) (peers : List Peer) (turn : ℕ) (turns : List Turn) (old new : N)
    → MovesOn steps indexes peers turn turns old new → (keys : KeyState) (now last after : KeptFile) → FileMovesOn keys turns now last → (signed : List Signing)
    → Type 0
LeavesOn steps indexes found peers turn [] old new moves keys now last after file signed = LeavesBetween steps indexes found signed last after
LeavesOn steps indexes found peers turn (t ∷ ts) old new moves keys now last after file signed =
    LeavesBetween steps indexes found signed now file.0
    × ((more : List Signing) → SignsInTurn steps indexes peers (polled_by peers turn) t old moves.0 moves.1 more
    → LeavesOn steps indexes found peers (turn + 1) ts moves.0 new moves.2 (keys_after keys t.reserved) file.0 last after file.2 (signed ++ more))

-- from its first line on, where this was signed at its start
abbrev pub LeavesAfter : {N : Type 0} (steps : Steps N) (indexes : N → Indexes) (found : List ℕ) (signed : List Signing) (peers : List Peer) (count : ℕ)
    (start : N) (keys : KeyState) (before after : Outside) (ended : Served) → EndsAfter steps indexes peers count start keys before after ended → Type 0
LeavesAfter steps indexes found signed peers count start keys before after ended (Whole turns last between made ran quiet finishes) =
    LeavesOn steps indexes found peers 0 turns start last ran.moves keys before.file between.file after.file ran.file signed
LeavesAfter steps indexes found signed peers count start keys before after ended (Stopped turns last between made ran ends) =
    LeavesOn steps indexes found peers 0 turns start last ran.moves keys before.file between.file after.file ran.file signed

-- and from its start on
abbrev pub LeavesTurns : {N : Type 0} (steps : Steps N) (indexes : N → Indexes) (found : List ℕ) (signed : List Signing) (peers : List Peer) (o : Opening)
    (count : ℕ) (start : N) (keys : KeyState) (before after : Outside) (ended : Served) → EndsTurns steps indexes peers o count start keys before after ended
    → Type 0
LeavesTurns steps indexes found signed peers o count start keys before after ended (Unbegun quiet fails) =
    LeavesBetween steps indexes found signed before.file after.file
LeavesTurns steps indexes found signed peers o count start keys before after ended (Begun text first ends) =
    LeavesAfter steps indexes found signed peers count start keys (record before { text = text }) after ended ends
