-- What a daemon does from the opening of its wire and its key file on: how these are opened, or why they aren't, and how it ends.
use Rattle.std.specs.Prelude.{ℕ, ◌≡◌, true, false, List, [], ◌∷◌, Err, codes}
use Rattle.std.specs.Io.KnownBytes.{Appends}
use Rattle.sp_keystate.specs.RefusedLines.{refused_line}
use Rattle.sp_keystate.specs.Starting.{KeepsAll, NoStart, Starts}
use Rattle.sp_keystate.specs.States.{HasFaultCause, StandsFor}
use Rattle.sp_keystate.specs.declared.key_state.KeyState.{KeyState}
use Rattle.sp_keystate.specs.declared.refused.KeyRefused.{KeyRefused}
use Rattle.sp_keystate.specs.declared.starts.Started.{Started}
use Rattle.sp_keystate.specs.declared.starts.TheConstants.{RESERVED}
use Rattle.sp_outside.specs.Calls.{Opened, Tells}
use Rattle.sp_recording.specs.declared.line.Opening.{Opening}
use Rattle.sp_service_turns.specs.Daemons.{EndsAfter, FailsToWrite, first_text}
use Rattle.sp_service_turns.specs.Inputs.{Steps}
use Rattle.sp_service_turns.specs.Outside.{IsQuiet, Outside, Text}
use Rattle.sp_service_turns.specs.Told.{IsTold}
use Rattle.sp_service_turns.specs.declared.indexes.Indexes.{Indexes}
use Rattle.sp_service_turns.specs.declared.peer.Peer.{Peer}
use Rattle.sp_service_turns.specs.declared.opened.Ports.{Ports}
use Rattle.sp_service_turns.specs.declared.served.Served.{Served}
use Rattle.sp_service_turns.specs.declared.served.Served.TheVariants as served

-- ---- the opening of the wire, and a start

abbrev pub wire_line : List ℕ
wire_line = codes "wire\n"

-- The wire is open, and a start was taken from the key file. Of a sound file no moment of it left a lower bound or a lower boot than was found
pub record IsOpened (ports : Ports) (total : ℕ) (started : Started) (before after : Outside) : Type 0 where
  pub opened : Tells before.wire after.wire (Opened ports.overlay ports.client true ∷ [])
  pub starts : Starts before.file.disk after.file.disk RESERVED total started
  pub stands : StandsFor after.file.disk started.state
  pub kept : KeepsAll before.file.disk before.file.past after.file.past
  pub faultless : after.file.faults ≡ before.file.faults
  pub unread : after.clock ≡ before.clock
  pub unwritten : after.text ≡ before.text

-- the wire couldn't be opened, and nothing else was called
pub record IsUnopened (ports : Ports) (before after : Outside) : Type 0 where
  pub opened : Tells before.wire after.wire (Opened ports.overlay ports.client false ∷ [])
  pub unread : after.clock ≡ before.clock
  pub untouched : after.file ≡ before.file

-- The wire was opened, and the key file gave no start. A call on it failed just where that is why, and no moment left a lower bound or a lower boot
pub record IsUnstarted (ports : Ports) (total : ℕ) (refused : KeyRefused) (before after : Outside) : Type 0 where
  pub opened : Tells before.wire after.wire (Opened ports.overlay ports.client true ∷ [])
  pub cause : NoStart before.file.disk total refused
  pub kept : KeepsAll before.file.disk before.file.past after.file.past
  pub faults : HasFaultCause {T = Unit {0}} before.file.faults after.file.faults (Err refused)
  pub unread : after.clock ≡ before.clock

-- how a daemon ended that wasn't opened: what failed was written, or a beginning of it
pub data FailsToOpen (ports : Ports) (total : ℕ) (before after : Outside) (ended : Served) : Type 0 where
  No_wire : IsUnopened ports before after → IsTold served.Wire wire_line ended before.text after.text → FailsToOpen ports total before after ended
  No_start : (refused : KeyRefused) → IsUnstarted ports total refused before after
      → IsTold (served.Keys refused) (refused_line refused) ended before.text after.text → FailsToOpen ports total before after ended

-- the first line of the recording of a start
abbrev pub opening_of : Started → Opening
opening_of started = record { boot = started.state.boot; index = started.first; bound = started.state.bound }

-- ---- the turns

-- how a daemon ended that was opened, and was to make so many turns, from this node and these keys on
pub data EndsTurns {N : Type 0} (steps : Steps N) (indexes : N → Indexes) (peers : List Peer) (o : Opening) (count : ℕ) (start : N) (keys : KeyState)
    (before after : Outside) (ended : Served) : Type 0 where
  -- its first line wasn't written, and nothing was called
  Unbegun : IsQuiet before after → FailsToWrite (first_text o) before.text after.text ended
      → EndsTurns steps indexes peers o count start keys before after ended
  -- its first line was written, and then it ended so
  Begun : (text : Text) → Appends before.text text (first_text o) → EndsAfter steps indexes peers count start keys (record before { text = text }) after ended
      → EndsTurns steps indexes peers o count start keys before after ended
