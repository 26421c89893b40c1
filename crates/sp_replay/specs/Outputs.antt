-- What a replay writes for its text, and what the schedule of a number gives.
use Rattle.std.specs.Prelude.{ℕ, ◌≡◌, ◌+◌, ◌≤◌, List, [], ◌∷◌, ◌++◌, length, take, nat_lt, Option, Some, None, codes}
use Rattle.std.specs.Fmt.{decimal}
use Rattle.hex.specs.Hex.{encode_lower}
use Rattle.sha2.specs.Sha256.{sha256}
use Rattle.laws_runs_format.specs.Hostile.{IsHostile}
use Rattle.sp_base.specs.declared.limits.TheConstants.{MAX_INPUT_BYTES}
use Rattle.sp_generate.specs.Generated.{generated_events, generated_scenario}
use Rattle.sp_journal.specs.JournalText.{journal_lines, journal_text, summary_words}
use Rattle.sp_journal.specs.declared.entry.Entry.{Entry}
use Rattle.sp_lines.specs.Rows.{after_spaces, line_text}
use Rattle.laws_runs_format.specs.Arts.{arts_of}
use Rattle.sp_runs.specs.Inputs.{acting}
use Rattle.sp_runs.specs.Runs.{Clean, IsForgedAt}
use Rattle.sp_runs.specs.Scenarios.{setting_of}
use Rattle.sp_runs.specs.Worlds.{World}
use Rattle.sp_runs.specs.declared.what.What.{What}
use Rattle.sp_runs.specs.declared.what.What.TheVariants as whats
use Rattle.sp_schedule.specs.Readings.{IsReading}
use Rattle.sp_schedule.specs.Refusals.{refused_line}
use Rattle.sp_schedule.specs.Scenarios.{IsSchedule}
use Rattle.sp_schedule.specs.Spelling.{schedule_text}
use Rattle.sp_schedule.specs.declared.refused.Kind.{Kind}
use Rattle.sp_schedule.specs.declared.stage.Ending.{Ending}
use Rattle.sp_schedule.specs.declared.stage.Ending.TheVariants as endings
use Rattle.sp_schedule.specs.declared.stage.Stage.{Stage}
use Rattle.sp_schedule.specs.declared.stage.Stage.TheVariants as stages
use Rattle.sp_schedule_events.specs.declared.event.Event.{Event}
use Rattle.sp_schedule_events.specs.declared.scenario.Scenario.{Scenario}
use Rattle.sp_text.specs.Spelling.{hex_word}
use Rattle.sp_words.specs.declared.status.Status.{Status}
use Rattle.sp_words.specs.declared.status.Status.TheVariants as statuses
use Rattle.sp_world.specs.Past.{IsWithout, Past}
use Rattle.sp_world.specs.declared.refused.WorldRefused.TheVariants as stops

-- ---- the last line

-- the journal of the events before a refusal. A header that is refused has none
abbrev pub lines_before : Option Past → List ℕ
lines_before None = []
lines_before (Some past) = journal_lines past.journal

-- the same without its last piece, an entry or the line of its version
abbrev pub lines_but_last : List Entry → List ℕ
lines_but_last [] = []
lines_but_last (e ∷ es) = journal_lines (take (length es) (e ∷ es))

-- the words that tell what is forged
abbrev pub what_words : What → List (List ℕ)
what_words whats.Tag = codes "tag" ∷ []
what_words (whats.Object body) = codes "object" ∷ hex_word body ∷ []

-- forged EVENT tag, or forged EVENT object HEX
unfoldable pub forged_line : ℕ → What → List ℕ
forged_line number what = codes "forged" ++ (after_spaces (decimal number ∷ what_words what) ++ codes "\n")

-- ---- the events of a text

-- how the text of a source is read, of which no more is read than may be
abbrev pub IsRead : List ℕ → Stage → Ending → Type 0
IsRead text stage ending = IsReading (take MAX_INPUT_BYTES text) (nat_lt MAX_INPUT_BYTES (length text)) (record { stage = stage; ending = ending })

-- the scenario and the events of a stage. Before the line `begin` it has none
abbrev pub IsOfStage : Stage → Scenario → List Event → Type 0
IsOfStage (stages.Events s es) t fs = (s ≡ t) × (es ≡ fs)
IsOfStage (stages.End s es) t fs = (s ≡ t) × (es ≡ fs)
IsOfStage _ t fs = ⊥

-- no event has been read
abbrev pub HasNoWorld : Stage → Type 0
HasNoWorld (stages.Events s es) = ⊥
HasNoWorld (stages.End s es) = ⊥
HasNoWorld _ = Unit {0}

-- all events of a stage were done, and nothing of them is forged. Before the line `begin` there is no world
abbrev pub AreDone : Stage → Option Past → Type 0
AreDone stage (Some past) = IsOfStage stage past.scenario past.events × (past.stopped ≡ None)
AreDone stage None = HasNoWorld stage

-- This of the event after those of the past is forged: it is the first of which anything is. The event is the adversary's, and the node that acts in
-- it is gone from those to which the run led.
pub record IsForgedNext (past : Past) (event : Event) (number : ℕ) (what : What) : Type 0 where
  pub counted : number ≡ length past.events + 1
  pub world : World
  pub run : Clean (arts_of (setting_of past.scenario)) (setting_of past.scenario) past.events past.journal world
  pub forged : IsForgedAt (arts_of (setting_of past.scenario)) (setting_of past.scenario) past.events past.journal world event what
  pub hostile : IsHostile event
  pub left : IsWithout world (acting event) past.world
  pub stopped : past.stopped ≡ Some (stops.Forged number what)

-- of the events of a stage those of the past were done, and of the next this is forged
pub record IsForgedIn (stage : Stage) (past : Past) (number : ℕ) (what : What) : Type 0 where
  pub event : Event
  pub rest : List Event
  pub events : IsOfStage stage past.scenario (past.events ++ event ∷ rest)
  pub next : IsForgedNext past event number what

-- ---- how a text ends

-- the text is that of this schedule, and no longer than may be read
pub record Spells (text : List ℕ) (s : Scenario) (es : List Event) : Type 0 where
  pub schedule : IsSchedule s es
  pub spelled : text ≡ schedule_text s es
  pub size : length text ≤ MAX_INPUT_BYTES

-- the text spells the scenario and the events of the past. A source that tells nothing may have had any
abbrev pub ReadsWhole : Option (List ℕ) → Past → Type 0
ReadsWhole None past = Unit {0}
ReadsWhole (Some text) past = Spells text past.scenario past.events

-- the first bad line of a text, and why it is refused. The past is that of the lines before it
pub record RefusalOf (text : List ℕ) (past : Option Past) (line : ℕ) (kind : Kind) : Type 0 where
  pub stage : Stage
  pub reading : IsRead text stage (endings.Refused line kind)
  pub done : AreDone stage past
  -- the text spells no schedule
  pub bad : (s : Scenario) (es : List Event) → Spells text s es → ⊥

-- what is written for a text that is refused at this line
abbrev pub IsRefusal : Option (List ℕ) → Option Past → ℕ → Kind → Type 0
IsRefusal None past line kind = Unit {0}
IsRefusal (Some text) past line kind = RefusalOf text past line kind

-- the first event of a text of which anything is forged, before any bad line
pub record ForgeryOf (text : List ℕ) (past : Past) (number : ℕ) (what : What) : Type 0 where
  pub stage : Stage
  pub ending : Ending
  pub reading : IsRead text stage ending
  pub forged : IsForgedIn stage past number what

-- the next event is forged, and what of it
abbrev pub IsForgery : Option (List ℕ) → Past → ℕ → What → Type 0
IsForgery None past number what = (event : Event) × IsForgedNext past event number what
IsForgery (Some text) past number what = ForgeryOf text past number what

-- ---- the schedule of a number

-- the whole schedule of a number was run, and nothing of it is forged
pub record IsGenerated (number : ℕ) (past : Past) : Type 0 where
  pub scenario : past.scenario ≡ generated_scenario number
  pub events : past.events ≡ generated_events number
  pub going : past.stopped ≡ None

-- digest HEX, the SHA-256 of a text
abbrev pub digest_line : List ℕ → List ℕ
digest_line text = line_text (codes "digest" ∷ encode_lower (sha256 text) ∷ [])

-- the summary of a journal, and the digest of its whole text
abbrev pub generated_text : List Entry → List ℕ
generated_text journal = line_text (summary_words journal) ++ digest_line (journal_text journal)

-- ---- the output of a replay

-- what is written for what a source had left, with the status and the world that go with it
pub data IsOutput (left : Option (List ℕ)) : Option Past → Status → List ℕ → Type 0 where
  Whole_journal : (past : Past) → past.stopped ≡ None → ReadsWhole left past → IsOutput left (Some past) statuses.Done (journal_text past.journal)
  First_bad_line : (past : Option Past) (line : ℕ) (kind : Kind) → IsRefusal left past line kind
      → IsOutput left past statuses.Refused (lines_before past ++ refused_line line kind)
  First_forgery : (past : Past) (number : ℕ) (what : What) → IsForgery left past number what
      → IsOutput left (Some past) statuses.Forged (journal_lines past.journal ++ forged_line number what)
