-- How the commands end that call the wire or the key file: a question to a daemon, the making of a key file, and a daemon itself.
use Rattle.std.specs.Prelude.{ℕ, ◌≡◌, ◌⊎◌, List, [], ◌∷◌, ◌++◌, Option, Some, None, codes}
use Rattle.std.specs.Fmt.{decimal}
use Rattle.std.specs.Io.KnownBytes.{Appends}
use Rattle.sp_lines.specs.Rows.{line_text}
use Rattle.sp_keystate.specs.RefusedLines.{refused_line}
use Rattle.sp_keystate.specs.Starting.{KeepsAll}
use Rattle.sp_keystate.specs.States.{Finds, FormatMoments, Formats}
use Rattle.sp_keystate.specs.declared.refused.KeyRefused.TheVariants as keys
use Rattle.sp_keystate.specs.declared.slot.InUse.{InUse}
use Rattle.sp_outside.specs.Disk.{Disk}
use Rattle.sp_outside.specs.Streams.{AppendsFront}
use Rattle.sp_service_turns.specs.Outside.{Outside}
use Rattle.sp_service_turns.specs.Served.{wire_line}
use Rattle.sp_service_ask.specs.Asking.{Asked, Unopened}
use Rattle.sp_service_ask.specs.declared.question.Question.{Question}
use Rattle.sp_words.specs.declared.command_line.Ask.{Ask}
use Rattle.sp_top.specs.Daemons.{DaemonRuns}
use Rattle.sp_top.specs.declared.command.Command.{Command}
use Rattle.sp_top.specs.declared.command.Command.TheVariants as commands
use Rattle.sp_words.specs.declared.status.Status.{Status}
use Rattle.sp_words.specs.declared.status.Status.TheVariants as statuses

-- ---- a question

abbrev pub reply_line : List ℕ → List ℕ
reply_line reply = reply ++ codes "\n"

-- the line of a question without a reply
abbrev pub unanswered_line : ℕ → List ℕ
unanswered_line turns = line_text (codes "unanswered" ∷ decimal turns ∷ [])

-- a question came to this line, and to the status with it
pub data Answers (q : Question) (before after : Outside) : Status → List ℕ → Type 0 where
  Reply : (reply : List ℕ) → Asked q before.wire after.wire (Some reply) → Answers q before after statuses.Done (reply_line reply)
  No_reply : Asked q before.wire after.wire None → Answers q before after statuses.Unanswered (unanswered_line q.turns)
  No_port : Unopened q before.wire after.wire → Answers q before after statuses.Wire wire_line

-- the line was written
pub record IsAnswered (q : Question) (status : Status) (before after : Outside) : Type 0 where
  pub line : List ℕ
  pub answers : Answers q before after status line
  pub written : Appends before.text after.text line

-- the sink failed, and has a beginning of the line
pub record IsUntold (q : Question) (status : Status) (before after : Outside) : Type 0 where
  pub sink : status ≡ statuses.Sink
  pub would : Status
  pub line : List ℕ
  pub answers : Answers q before after would line
  pub begun : AppendsFront before.text after.text line

-- there was no memory: before anything was called, or for the line that the question came to. Nothing was written
pub record IsForgotten (q : Question) (status : Status) (before after : Outside) : Type 0 where
  pub memory : status ≡ statuses.Memory
  pub called : (after.wire ≡ before.wire) ⊎ ((would : Status) × (line : List ℕ) × Answers q before after would line)
  pub unwritten : after.text ≡ before.text

-- the question of what was asked
abbrev pub question_of : Ask → Question
question_of a = record { port = a.port; local = a.local; turns = a.turns; request = a.request }

-- how a question ends
abbrev pub AskEnds : Ask → Status → Outside → Outside → Type 0
AskEnds a status before after = IsAnswered (question_of a) status before after
    ⊎ (IsUntold (question_of a) status before after ⊎ IsForgotten (question_of a) status before after)

-- the run ended so, and this line was written; or the sink failed, and has a beginning of it; or there was no memory for it
abbrev pub IsTold : Status → List ℕ → Status → Option (List ℕ) → Option (List ℕ) → Type 0
IsTold would line status before after =
    ((status ≡ would) × Appends before after line)
    ⊎ (((status ≡ statuses.Sink) × AppendsFront before after line) ⊎ ((status ≡ statuses.Memory) × (after ≡ before)))

-- ---- a key file is made

-- the line of a key file that was made
abbrev pub formatted_line : List ℕ
formatted_line = codes "formatted\n"

-- what comes of it: the file and its line
pub data Makes (before after : Option Disk) : Status → List ℕ → Type 0 where
  Made : Formats before after → Makes before after statuses.Done formatted_line
  Was_formatted : (found : InUse) → Finds before after (Some found) → Makes before after statuses.KeyState (refused_line keys.Formatted)
  Keeper_failed : Makes before after statuses.Keeper (refused_line keys.KeeperFault)

-- the making of a key file ended so
pub record FormatEnds (status : Status) (before after : Outside) : Type 0 where
  pub would : Status
  pub line : List ℕ
  pub makes : Makes before.file.disk after.file.disk would line
  pub told : IsTold would line status before.text after.text

-- what a crash leaves of the key file meanwhile: a daemon takes no bound and no boot back, and a file that is made leaves what that change may leave
abbrev pub KeepsFile : Option Command → Option Disk → Option (List Disk) → Option (List Disk) → Type 0
KeepsFile (Some (commands.Daemon turns)) told past now = KeepsAll told past now
KeepsFile (Some commands.Format) told past now = FormatMoments told past now
KeepsFile _ told past now = now ≡ past

-- ---- together

-- how what the words say ended, where it calls the wire or the keeper
abbrev pub ServiceEnds : Option Command → Option (List ℕ) → Status → Outside → Outside → Type 0
ServiceEnds (Some (commands.Daemon turns)) left status before after = DaemonRuns left turns status before after
ServiceEnds (Some (commands.Ask a)) left status before after = AskEnds a status before after
ServiceEnds (Some commands.Format) left status before after = FormatEnds status before after
ServiceEnds _ left status before after = Unit {0}
