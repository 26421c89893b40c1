-- Many turns, one after another.
use Rattle.std.specs.Prelude.{ℕ, ◌≡◌, ◌+◌, ◌%◌, List, [], ◌∷◌, ◌++◌, length, map, slice_get, Option, None}
use Rattle.sp_keystate.specs.declared.key_state.KeyState.{KeyState}
use Rattle.sp_outside.specs.Calls.{Call, Tells}
use Rattle.sp_recording.specs.declared.line.Closing.{Closing}
use Rattle.sp_recording.specs.declared.line.Line.{Line}
use Rattle.sp_service_turns.specs.Done.{Gets}
use Rattle.sp_service_turns.specs.Inputs.{Steps}
use Rattle.sp_service_turns.specs.Keys.{FileMoves, HoldsKeys, keys_after}
use Rattle.sp_service_turns.specs.Outside.{KeptFile, Outside}
use Rattle.sp_service_turns.specs.Turns.{Moves, Turn, calls_of, lines_of, lost_of}
use Rattle.sp_service_turns.specs.declared.indexes.Indexes.{Indexes}
use Rattle.sp_service_turns.specs.declared.peer.Peer.{Peer}

-- the neighbour that a turn polls, in a cycle. None where there is none
abbrev pub polled_by : List Peer → ℕ → Option Peer
polled_by [] turn = None
polled_by (p ∷ ps) turn = slice_get (p ∷ ps) (turn % length (p ∷ ps))

-- from this turn on
abbrev pub MovesOn : {N : Type 0} → Steps N → (N → Indexes) → List Peer → ℕ → List Turn → N → N → Type 0
MovesOn steps indexes peers turn [] old new = new ≡ old
MovesOn {N} steps indexes peers turn (t ∷ ts) old new =
    (mid : N) × Moves steps indexes peers (polled_by peers turn) t old mid × MovesOn steps indexes peers (turn + 1) ts mid new

-- the calls of turns, in order
abbrev pub all_calls : List Peer → ℕ → List Turn → List Call
all_calls peers turn [] = []
all_calls peers turn (t ∷ ts) = calls_of (polled_by peers turn) t ++ all_calls peers (turn + 1) ts

-- the lines of turns, in order
abbrev pub all_lines : List Peer → ℕ → List Turn → List Line
all_lines peers turn [] = []
all_lines peers turn (t ∷ ts) = lines_of peers (polled_by peers turn) t ++ all_lines peers (turn + 1) ts

-- how many calls of turns failed
abbrev pub all_lost : List Peer → ℕ → List Turn → ℕ
all_lost peers turn [] = 0
all_lost peers turn (t ∷ ts) = lost_of (polled_by peers turn) t + all_lost peers (turn + 1) ts

-- ---- the key file

-- what it stands for after these turns
abbrev pub keys_on : KeyState → List Turn → KeyState
keys_on keys [] = keys
keys_on keys (t ∷ ts) = keys_on (keys_after keys t.reserved) ts

-- what these turns made of it, one after another: of each, no moment left a lower bound than was reserved before that turn
abbrev pub FileMovesOn : KeyState → List Turn → KeptFile → KeptFile → Type 0
FileMovesOn keys [] before after = after ≡ before
FileMovesOn keys (t ∷ ts) before after =
    (between : KeptFile) × FileMoves t.reserved keys before between × FileMovesOn (keys_after keys t.reserved) ts between after

-- ---- together

-- These turns were made: the node took their steps, the wire was called just as they call it, the clock was read once in each, the recording got their lines,
-- and the key file, which stood for these keys, was changed once for each reserve and stands for the bound that the node has
pub record Ran {N : Type 0} (steps : Steps N) (indexes : N → Indexes) (peers : List Peer) (turns : List Turn) (old new : N) (keys : KeyState)
    (before after : Outside) : Type 0 where
  pub moves : MovesOn steps indexes peers 0 turns old new
  pub calls : Tells before.wire after.wire (all_calls peers 0 turns)
  pub readings : Tells before.clock after.clock (map (λ t. t.now) turns)
  pub text : Gets before.text after.text (all_lines peers 0 turns)
  pub file : FileMovesOn keys turns before.file after.file
  pub held : HoldsKeys after.file.disk (keys_on keys turns) (indexes new)

-- what the end line tells of them
abbrev pub closing_of : List Peer → List Turn → Closing
closing_of peers turns = record { turns = length turns; lost = all_lost peers 0 turns }
