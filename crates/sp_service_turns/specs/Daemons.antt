-- How a daemon begins, makes a turn, and ends.
use Rattle.std.specs.Prelude.{ℕ, ◌≡◌, ◌<◌, ◌+◌, ◌⊎◌, List, length, Option}
use Rattle.std.specs.Io.KnownBytes.{Appends}
use Rattle.sp_keystate.specs.RefusedLines.{refused_line}
use Rattle.sp_keystate.specs.declared.key_state.KeyState.{KeyState}
use Rattle.sp_keystate.specs.declared.refused.KeyRefused.{KeyRefused}
use Rattle.sp_lines.specs.Rows.{line_text}
use Rattle.sp_outside.specs.Streams.{AppendsFront}
use Rattle.sp_recording.specs.RecordingText.{closing_words, opening_words}
use Rattle.sp_recording.specs.declared.line.Closing.{Closing}
use Rattle.sp_recording.specs.declared.line.Opening.{Opening}
use Rattle.sp_service_turns.specs.Done.{Done}
use Rattle.sp_service_turns.specs.Early.{Early}
use Rattle.sp_service_turns.specs.Inputs.{Steps}
use Rattle.sp_service_turns.specs.Keys.{NoMore}
use Rattle.sp_service_turns.specs.Outside.{IsQuiet, Outside, Text}
use Rattle.sp_service_turns.specs.Runs.{Ran, all_lost, closing_of, keys_on, polled_by}
use Rattle.sp_service_turns.specs.Told.{IsTold}
use Rattle.sp_service_turns.specs.Turns.{Turn}
use Rattle.sp_service_turns.specs.declared.daemon.Daemon.{Daemon}
use Rattle.sp_service_turns.specs.declared.indexes.Indexes.{Indexes}
use Rattle.sp_service_turns.specs.declared.peer.Peer.{Peer}
use Rattle.sp_service_turns.specs.declared.served.Served.{Served}
use Rattle.sp_service_turns.specs.declared.served.Served.TheVariants as served

-- ---- its first and its last line

abbrev pub first_text : Opening → List ℕ
first_text o = line_text (opening_words o)

-- the last line of a recording
abbrev pub last_text : Closing → List ℕ
last_text c = line_text (closing_words c)

-- it ended since this line wasn't written: the sink has a beginning of it, or there was no memory, and nothing was written
abbrev pub FailsToWrite : List ℕ → Text → Text → Served → Type 0
FailsToWrite line before after served.Sink = AppendsFront before after line
FailsToWrite line before after served.Memory = after ≡ before
FailsToWrite line before after _ = ⊥

-- it ended with this last line, or since it wasn't written
abbrev pub Finishes : Closing → Text → Text → Served → Type 0
Finishes c before after served.Done = Appends before after (last_text c)
Finishes c before after ended = FailsToWrite (last_text c) before after ended

-- ---- a turn

-- it made a turn, which is counted, as is what was lost in it
pub record MakesTurn {N : Type 0} (steps : Steps N) (indexes : N → Indexes) (old new : Daemon N) (before after : Outside) : Type 0 where
  pub lost : ℕ
  pub done : Done steps indexes old.peers.items (polled_by old.peers.items old.turns) old.node new.node old.keys new.keys before after lost
  pub counted : new.turns ≡ old.turns + 1
  pub lost_is : new.lost ≡ old.lost + lost
  pub peers : new.peers ≡ old.peers

-- it made so many turns, the first that it made
pub record HasMade {N : Type 0} (steps : Steps N) (indexes : N → Indexes) (count : ℕ) (old new : Daemon N) (before after : Outside) : Type 0 where
  pub turns : List Turn
  pub made : length turns ≡ count
  pub ran : Ran steps indexes old.peers.items turns old.node new.node old.keys before after
  pub keys : new.keys ≡ keys_on old.keys turns
  pub counted : new.turns ≡ count
  pub lost_are : new.lost ≡ all_lost old.peers.items 0 turns
  pub peers : new.peers ≡ old.peers

-- how a turn ended it that polls this neighbour, from this node and these keys on
pub data EndsTurn {N : Type 0} (steps : Steps N) (indexes : N → Indexes) (peers : List Peer) (polled : Option Peer) (node : N) (keys : KeyState)
    (before after : Outside) (ended : Served) : Type 0 where
  -- no more indexes could be reserved: nothing else was done, and that is written, or a beginning of it
  Spent : (refused : KeyRefused) → NoMore (indexes node) keys refused before.file after.file → after.wire ≡ before.wire → after.clock ≡ before.clock
      → IsTold (served.Keys refused) (refused_line refused) ended before.text after.text → EndsTurn steps indexes peers polled node keys before after ended
  -- the sink failed, or there was no memory
  Broken : (ended ≡ served.Sink) ⊎ (ended ≡ served.Memory) → Early steps indexes peers polled node keys before after
      → EndsTurn steps indexes peers polled node keys before after ended

-- ---- all turns

-- how a daemon ended that had written its first line, and then was to make so many turns
pub data EndsAfter {N : Type 0} (steps : Steps N) (indexes : N → Indexes) (peers : List Peer) (count : ℕ) (start : N) (keys : KeyState)
    (before after : Outside) (ended : Served) : Type 0 where
  -- it made all of them, and then it ended with its last line, or since that wasn't written
  Whole : (turns : List Turn) (last : N) (between : Outside) → length turns ≡ count → Ran steps indexes peers turns start last keys before between
      → IsQuiet between after → Finishes (closing_of peers turns) between.text after.text ended
      → EndsAfter steps indexes peers count start keys before after ended
  -- it made these, and the next one ended it
  Stopped : (turns : List Turn) (last : N) (between : Outside) → length turns < count → Ran steps indexes peers turns start last keys before between
      → EndsTurn steps indexes peers (polled_by peers (length turns)) last (keys_on keys turns) between after ended
      → EndsAfter steps indexes peers count start keys before after ended
