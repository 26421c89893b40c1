-- A turn that broke off, since the sink failed or there was no memory: how far it came, and what of it is its node's.
use Rattle.std.specs.Prelude.{ℕ, ◌≡◌, ◌⊎◌, List, [], ◌∷◌, ◌++◌, Option, None, Some, Result, Err}
use Rattle.sp_base.specs.declared.id.NodeId.{NodeId}
use Rattle.sp_keystate.specs.declared.key_state.KeyState.{KeyState}
use Rattle.sp_outside.specs.declared.side.Side.TheVariants.{Overlay, Client}
use Rattle.sp_outside.specs.Calls.{Call, Came, Received, Tells}
use Rattle.sp_outside.specs.Streams.{AppendsFront}
use Rattle.sp_recording.specs.RecordingText.{lines_text}
use Rattle.sp_recording.specs.declared.line.Line.{Line}
use Rattle.sp_recording.specs.declared.line.Line.TheVariants as lines
use Rattle.sp_service_turns.specs.Indexes.{reserved_by}
use Rattle.sp_service_turns.specs.Inputs.{Datagram, Input, Poll, Request, Reserve, Steps, Tick}
use Rattle.sp_service_turns.specs.Keys.{FileMoves, Reserves}
use Rattle.sp_service_turns.specs.Outside.{KeptFile, Outside, TellsFront, Text}
use Rattle.sp_service_turns.specs.Turns.{Moves, Turn, calls_of, lines_of, node_at, overlay_line, reserve_lines, tick_line, told}
use Rattle.sp_service_turns.specs.Verified.{Agrees}
use Rattle.sp_service_turns.specs.declared.ended.Ended.{Ended}
use Rattle.sp_service_turns.specs.declared.ended.Ended.TheVariants as ended
use Rattle.sp_service_turns.specs.declared.indexes.Indexes.{Indexes}
use Rattle.sp_service_turns.specs.declared.peer.Peer.{Peer}

-- the recording got a beginning of these lines
abbrev pub GetsFront : Text → Text → List Line → Type 0
GetsFront before after ls = AppendsFront before after (lines_text ls)

-- It made the first calls of a turn of this node, and sent no frame. It replied to a client only after its node had taken the steps of the turn that far; the
-- lines of which the recording got a beginning agree with steps of the node; and of the key file it called what its reserve does
pub record Early {N : Type 0} (steps : Steps N) (indexes : N → Indexes) (peers : List Peer) (polled : Option Peer) (old : N) (keys : KeyState)
    (before after : Outside) : Type 0 where
  pub t : Turn
  pub due : t.reserved ≡ reserved_by (indexes old)
  pub file : FileMoves t.reserved keys before.file after.file
  pub reading : TellsFront before.clock after.clock (t.now ∷ [])
  pub calls : TellsFront before.wire after.wire (calls_of None t)
  pub replied : calls.rest ≡ [] → (new : N) × Moves steps indexes peers None t old new
  pub begun : List Line
  pub later : List Line
  pub front : begun ++ later ≡ lines_of peers polled t
  pub new : N
  pub count : ℕ
  pub agrees : Agrees steps old begun new count
  pub text : GetsFront before.text after.text begun

-- ---- the parts

-- this holds where it wasn't the key file that ended a call
abbrev pub IfBroken : {T : Type 0} → Result T Ended → Type 0 → Type 0
IfBroken (Err ended.Sink) Holds = Holds
IfBroken (Err ended.Memory) Holds = Holds
IfBroken result Holds = Unit {0}

-- the node took a step, and the line that tells its answer was begun; or nothing was done
abbrev pub BeginsLine : {N : Type 0} → Steps N → N → Input → (List ℕ → Line) → Text → Text → Type 0
BeginsLine {N} steps old input line before after =
    (after ≡ before) ⊎ ((answer : List ℕ) × (new : N) × steps old input answer new × GetsFront before after (line answer ∷ []))

-- a turn that broke off as indexes were reserved
pub record EarlyRestock {N : Type 0} (steps : Steps N) (indexes : N → Indexes) (old : N) (keys : KeyState) (file_before file_after : KeptFile)
    (before after : Text) : Type 0 where
  pub upto : ℕ
  pub due : Some upto ≡ reserved_by (indexes old)
  pub new : N
  pub step : steps old (Reserve upto) [] new
  pub file : Reserves keys upto file_before file_after
  pub text : GetsFront before after (reserve_lines (Some upto))

-- a turn that broke off at its tick
pub record EarlyTick {N : Type 0} (steps : Steps N) (old : N) (clock_before clock_after : Option (List ℕ)) (before after : Text) : Type 0 where
  pub now : ℕ
  pub reading : Tells clock_before clock_after (now ∷ [])
  pub line : BeginsLine steps old (Tick now) (tick_line now) before after

-- a datagram whose line was begun
abbrev pub EarlyCame : {N : Type 0} → Steps N → Option NodeId → N → ℕ → List ℕ → Text → Text → Type 0
EarlyCame steps None old port bytes before after = GetsFront before after (lines.Stray port ∷ [])
EarlyCame steps (Some node) old port bytes before after = BeginsLine steps old (Datagram node bytes) (overlay_line (Some node) port bytes) before after

-- a turn that broke off at a neighbour's datagram
pub record EarlyOverlay {N : Type 0} (steps : Steps N) (peers : List Peer) (old : N) (wire_before wire_after : Option (List Call)) (before after : Text)
    : Type 0 where
  pub port : ℕ
  pub bytes : List ℕ
  pub calls : Tells wire_before wire_after (Received Overlay (Came port bytes) ∷ [])
  pub line : EarlyCame steps (node_at peers port) old port bytes before after

-- a request whose line was begun
abbrev pub EarlyReply : {N : Type 0} → Steps N → N → ℕ → List ℕ → Text → Text → Type 0
EarlyReply steps old port bytes before after = BeginsLine steps old (Request port bytes) (λ reply. lines.Client port bytes (told reply)) before after

-- a turn that broke off at a request
pub record EarlyClient {N : Type 0} (steps : Steps N) (old : N) (wire_before wire_after : Option (List Call)) (before after : Text) : Type 0 where
  pub port : ℕ
  pub bytes : List ℕ
  pub calls : Tells wire_before wire_after (Received Client (Came port bytes) ∷ [])
  pub line : EarlyReply steps old port bytes before after

-- a turn that broke off at its poll
abbrev pub EarlyPoll : {N : Type 0} → Steps N → Option Peer → N → Text → Text → Type 0
EarlyPoll steps None old before after = ⊥
EarlyPoll steps (Some peer) old before after = BeginsLine steps old (Poll peer.node) (λ frame. lines.Poll peer.node (told frame)) before after
