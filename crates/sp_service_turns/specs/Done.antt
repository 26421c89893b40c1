-- What each part of a turn promises, and the whole turn. The text is what the recording got.
use Rattle.std.specs.Prelude.{ℕ, ◌≡◌, ◌+◌, Bool, List, [], ◌∷◌, Option, None, Some}
use Rattle.std.specs.Io.KnownBytes.{Appends}
use Rattle.sp_base.specs.declared.id.NodeId.{NodeId}
use Rattle.sp_keystate.specs.declared.key_state.KeyState.{KeyState}
use Rattle.sp_outside.specs.declared.side.Side.TheVariants.{Overlay, Client}
use Rattle.sp_outside.specs.declared.side.Side.{Side}
use Rattle.sp_outside.specs.Calls.{Call, Got, Nothing, Lost, Came as Came_in, Tells, Received, Sent}
use Rattle.sp_recording.specs.RecordingText.{lines_text}
use Rattle.sp_recording.specs.declared.line.Line.{Line}
use Rattle.sp_recording.specs.declared.line.Line.TheVariants as lines
use Rattle.sp_service_turns.specs.Indexes.{HaveLeft, reserved_by}
use Rattle.sp_service_turns.specs.Inputs.{Datagram, Poll, Request, Steps, Tick}
use Rattle.sp_service_turns.specs.Keys.{FileMoves, keys_after}
use Rattle.sp_service_turns.specs.Outside.{KeptFile, Outside, Text}
use Rattle.sp_service_turns.specs.Turns.{Moves, Restocks, Turn, calls_of, lines_of, lost_of, node_at, reserve_lines, tick_line, told, unless}
use Rattle.sp_service_turns.specs.declared.indexes.Indexes.{Indexes}
use Rattle.sp_keystate.specs.declared.starts.TheConstants.{LEAST_LEFT}
use Rattle.sp_service_turns.specs.declared.peer.Peer.{Peer}

-- the recording got just these lines
abbrev pub Gets : Text → Text → List Line → Type 0
Gets before after ls = Appends before after (lines_text ls)

-- A turn was made: the node took its steps, the recording got its lines, what tells its calls tells just those of the turn, and of the key file it called
-- what its reserve does
pub record Done {N : Type 0} (steps : Steps N) (indexes : N → Indexes) (peers : List Peer) (polled : Option Peer) (old new : N)
    (keys_before keys_now : KeyState) (before after : Outside) (lost : ℕ) : Type 0 where
  pub t : Turn
  pub moves : Moves steps indexes peers polled t old new
  pub calls : Tells before.wire after.wire (calls_of polled t)
  pub reading : Tells before.clock after.clock (t.now ∷ [])
  pub text : Gets before.text after.text (lines_of peers polled t)
  pub keys : keys_now ≡ keys_after keys_before t.reserved
  pub file : FileMoves t.reserved keys_before before.file after.file
  pub lost_are : lost ≡ lost_of polled t

-- ---- the parts

-- indexes were reserved where few were left, and so many are left now
pub record Restocked {N : Type 0} (steps : Steps N) (indexes : N → Indexes) (old new : N) (keys_before keys_now : KeyState)
    (file_before file_after : KeptFile) (text_before text_after : Text) : Type 0 where
  pub reserved : Option ℕ
  pub due : reserved ≡ reserved_by (indexes old)
  pub step : Restocks steps reserved old new
  pub left : HaveLeft LEAST_LEFT (indexes new)
  pub text : Gets text_before text_after (reserve_lines reserved)
  pub keys : keys_now ≡ keys_after keys_before reserved
  pub file : FileMoves reserved keys_before file_before file_after

-- the tick of a turn: the clock was read, the node ticked, and its line was written
pub record Ticked {N : Type 0} (steps : Steps N) (old new : N) (clock_before clock_after : Option (List ℕ)) (text_before text_after : Text) : Type 0 where
  pub now : ℕ
  pub answer : List ℕ
  pub step : steps old (Tick now) answer new
  pub reading : Tells clock_before clock_after (now ∷ [])
  pub text : Gets text_before text_after (tick_line now answer ∷ [])

-- a datagram that came on the overlay side, by the neighbour whose port it came from
abbrev pub Came : {N : Type 0} → Steps N → Option NodeId → N → ℕ → List ℕ → N → Text → Text → Type 0
Came steps None old port bytes new before after = (new ≡ old) × Gets before after (lines.Stray port ∷ [])
Came steps (Some node) old port bytes new before after =
    (answer : List ℕ) × steps old (Datagram node bytes) answer new × Gets before after (lines.Overlay node bytes (told answer) ∷ [])

-- what becomes of what the overlay socket gave
abbrev pub IsOverheard : {N : Type 0} → Steps N → List Peer → Got → N → N → Text → Text → ℕ → Type 0
IsOverheard steps peers (Came_in port bytes) old new before after lost = Came steps (node_at peers port) old port bytes new before after × (lost ≡ 0)
IsOverheard steps peers Nothing old new before after lost = (new ≡ old) × (after ≡ before) × (lost ≡ 0)
IsOverheard steps peers Lost old new before after lost = (new ≡ old) × (after ≡ before) × (lost ≡ 1)

-- the overlay part of a turn: one receive, and what became of it
pub record Overheard {N : Type 0} (steps : Steps N) (peers : List Peer) (old new : N)
    (wire_before wire_after : Option (List Call)) (text_before text_after : Text) (lost : ℕ) : Type 0 where
  pub got : Got
  pub calls : Tells wire_before wire_after (Received Overlay got ∷ [])
  pub heard : IsOverheard steps peers got old new text_before text_after lost

-- a send, and 1 where it was lost
pub record SentOne (before after : Option (List Call)) (side : Side) (port : ℕ) (bytes : List ℕ) (lost : ℕ) : Type 0 where
  pub is_sent : Bool
  pub calls : Tells before after (Sent side port bytes is_sent ∷ [])
  pub lost_is : lost ≡ unless is_sent

-- the reply to a client's request
pub record Replied {N : Type 0} (steps : Steps N) (old : N) (port : ℕ) (bytes : List ℕ) (new : N)
    (wire_before wire_after : Option (List Call)) (text_before text_after : Text) (lost : ℕ)
    : Type 0 where
  pub reply : List ℕ
  pub step : steps old (Request port bytes) reply new
  pub sent : SentOne wire_before wire_after Client port reply lost
  pub text : Gets text_before text_after (lines.Client port bytes (told reply) ∷ [])

-- what becomes of what the client socket gave
abbrev pub IsServed : {N : Type 0} → Steps N → Got → N → N → Option (List Call) → Option (List Call) → Text → Text → ℕ → Type 0
IsServed steps (Came_in port bytes) old new wire_before wire_after before after lost = Replied steps old port bytes new wire_before wire_after before after lost
IsServed steps Nothing old new wire_before wire_after before after lost = (new ≡ old) × (wire_after ≡ wire_before) × (after ≡ before) × (lost ≡ 0)
IsServed steps Lost old new wire_before wire_after before after lost = (new ≡ old) × (wire_after ≡ wire_before) × (after ≡ before) × (lost ≡ 1)

-- the client part of a turn: one receive, and what became of it
pub record Served {N : Type 0} (steps : Steps N) (old new : N)
    (wire_before wire_after : Option (List Call)) (text_before text_after : Text) (lost : ℕ) : Type 0 where
  pub got : Got
  pub wire_between : Option (List Call)
  pub calls : Tells wire_before wire_between (Received Client got ∷ [])
  pub served : IsServed steps got old new wire_between wire_after text_before text_after lost

-- the poll of a neighbour: its frame was made, sent and written
pub record Polled {N : Type 0} (steps : Steps N) (old : N) (peer : Peer) (new : N)
    (wire_before wire_after : Option (List Call)) (text_before text_after : Text) (lost : ℕ) : Type 0 where
  pub frame : List ℕ
  pub step : steps old (Poll peer.node) frame new
  pub sent : SentOne wire_before wire_after Overlay peer.port frame lost
  pub text : Gets text_before text_after (lines.Poll peer.node (told frame) ∷ [])

-- the poll of a turn, where there is a neighbour to poll
abbrev pub PolledNext : {N : Type 0} → Steps N → Option Peer → N → N → Option (List Call) → Option (List Call) → Text → Text → ℕ → Type 0
PolledNext steps (Some peer) old new wire_before wire_after before after lost = Polled steps old peer new wire_before wire_after before after lost
PolledNext steps None old new wire_before wire_after before after lost = (new ≡ old) × (wire_after ≡ wire_before) × (after ≡ before) × (lost ≡ 0)
