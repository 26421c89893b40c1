-- What the parts of a replay promise each other while it reads.
use Rattle.std.specs.Prelude.{ℕ, ◌≡◌, ◌+◌, ◌++◌, ◌⊎◌, Bool, List, [], ◌∷◌, Option, Some, None, IfSome, Result, Ok, Err, length}
use Rattle.std.specs.Io.KnownBytes.{Appends}
use Rattle.sp_base.specs.declared.limits.TheConstants.{MAX_INPUT_BYTES}
use Rattle.sp_journal.specs.JournalText.{entry_text, journal_lines, summary_words}
use Rattle.sp_journal.specs.declared.entry.Entry.{Entry}
use Rattle.sp_lines.specs.Rows.{line_text}
use Rattle.sp_lines.specs.Texts.{Leads, Stop}
use Rattle.sp_outside.specs.Causes.{Rose}
use Rattle.sp_outside.specs.Streams.{AppendsFront, IsInput}
use Rattle.sp_runs.specs.declared.what.What.{What}
use Rattle.sp_schedule.specs.Feeds.{Fed, text_to}
use Rattle.sp_schedule.specs.Lines.{says}
use Rattle.sp_schedule.specs.Readings.{IsGoodStage, IsReading}
use Rattle.sp_schedule.specs.Refusals.{refused_line}
use Rattle.sp_schedule.specs.declared.refused.Kind.{Kind}
use Rattle.sp_schedule.specs.declared.stage.Ending.{Ending}
use Rattle.sp_schedule.specs.declared.stage.Ending.TheVariants as endings
use Rattle.sp_schedule.specs.declared.stage.Reading.{Reading}
use Rattle.sp_schedule.specs.declared.stage.Stage.{Stage}
use Rattle.sp_schedule.specs.declared.stage.Stage.TheVariants as stages
use Rattle.sp_schedule_events.specs.declared.event.Event.{Event}
use Rattle.sp_schedule_events.specs.declared.scenario.Scenario.{Scenario}
use Rattle.sp_world.specs.Past.{GoesOn, IsRefused, Past, at_first}
use Rattle.sp_world.specs.declared.refused.WorldRefused.{WorldRefused}
use Rattle.sp_world.specs.declared.refused.WorldRefused.TheVariants as stops
use Rattle.sp_words.specs.declared.status.Status.{Status}
use Rattle.sp_words.specs.declared.status.Status.TheVariants as statuses
use Rattle.sp_replay.specs.declared.halt.Halt.{Halt}
use Rattle.sp_replay.specs.declared.halt.Halt.TheVariants as halts
use Rattle.sp_replay.specs.Claims.{IsBegun, IsSunk}
use Rattle.sp_replay.specs.Fronts.{IsBrokenOff, IsFront}
use Rattle.sp_replay.specs.Outputs.{AreDone, IsForgedIn, forged_line, lines_before, lines_but_last}
use Rattle.sp_replay.specs.Played.{HasBuffers, IsPlayed, IsShort}

-- ---- whatever follows

-- the whole text has an output, which begins with what is written of a past, and whose run goes on from it
pub record Way (text : List ℕ) (is_cut : Bool) (past : Option Past) : Type 0 where
  pub whole : Option Past
  pub status : Status
  pub output : List ℕ
  pub played : IsPlayed text is_cut whole status output
  pub goes_on : IsFront past whole
  pub rest : List ℕ
  pub begins : output ≡ lines_before past ++ rest

-- whatever follows this text
abbrev pub Ways : List ℕ → Option Past → Type 0
Ways text past = (more : List ℕ) (is_cut : Bool) → Way (text ++ more) is_cut past

-- ---- so far

-- whatever follows the lines that were read leads on from their stage
abbrev pub LeadsFrom : Fed → Type 0
LeadsFrom f = (rest : List ℕ) (last : Stage) (end : ℕ) (stop : Stop Kind) → Leads says f.stage (f.count + 1) rest last end stop
    → Leads says stages.Start 1 (text_to f.stage ++ rest) last end stop

-- the lines that were read are good, and all their events were done
pub record SoFar (f : Fed) (world : Option Past) : Type 0 where
  pub good : IsGoodStage f.stage
  pub done : AreDone f.stage world
  pub leads : LeadsFrom f

-- ---- why no more is read of a text, of which this had come

-- whatever follows, it has this ending
pub record IsReadThere (front : List ℕ) (world : Option Past) (start after : Option (List ℕ)) (ending : Ending) : Type 0 where
  pub stage : Stage
  pub reading : (more : List ℕ) (is_cut : Bool) → IsReading (front ++ more) is_cut (record { stage = stage; ending = ending })
  pub good : IsGoodStage stage
  pub done : AreDone stage world
  pub written : Appends start after (lines_before world)

-- the event is forged in the reading of a text
pub record IsForgedOf (text : List ℕ) (is_cut : Bool) (past : Past) (number : ℕ) (what : What) : Type 0 where
  pub reading : Reading
  pub is : IsReading text is_cut reading
  pub forged : IsForgedIn reading.stage past number what

-- whatever follows, this event of it is forged
pub record IsForgedThere (front : List ℕ) (world : Option Past) (start after : Option (List ℕ)) : Type 0 where
  pub past : Past
  pub is : world ≡ Some past
  pub number : ℕ
  pub what : What
  pub forged : (more : List ℕ) (is_cut : Bool) → IsForgedOf (front ++ more) is_cut past number what
  pub short : IsShort past
  pub buffers : HasBuffers past
  pub written : Appends start after (journal_lines past.journal)

-- whatever follows, the sink got a beginning of an output of it
pub record IsBegunThere (front : List ℕ) (world : Option Past) (start after : Option (List ℕ)) : Type 0 where
  pub past : Option Past
  pub ways : Ways front past
  pub goes_on : IsFront world past
  pub buffers : IfSome world HasBuffers
  pub begun : AppendsFront start after (lines_before past)

-- whatever follows, the sink got the journal of this past but for its last piece, and a beginning of that
pub record IsSunkThere (front : List ℕ) (world : Option Past) (start after : Option (List ℕ)) : Type 0 where
  pub past : Past
  pub is : world ≡ Some past
  pub ways : Ways front (Some past)
  pub buffers : HasBuffers past
  pub rest : List ℕ
  pub least : Appends start after (lines_but_last past.journal ++ rest)
  pub most : AppendsFront start after (journal_lines past.journal)

-- where a replay halts among what it read
abbrev pub HaltsThere : List ℕ → Option Past → Option (List ℕ) → Option (List ℕ) → Halt → Type 0
HaltsThere front world start after (halts.Read ending) = IsReadThere front world start after ending
HaltsThere front world start after halts.Forged = IsForgedThere front world start after
HaltsThere front world start after halts.Sink = IsSunkThere front world start after
HaltsThere front world start after halts.Memory = IsBegunThere front None start after
HaltsThere front world start after halts.Source = ⊥

-- what comes of the lines of a text: all were done and told, or no more is read, since a sink that held what it should since the start holds this now
abbrev pub Plays : {T : Type 0} → List ℕ → Option Past → Option Past → Option (List ℕ) → Option (List ℕ) → Result T Halt → Type 0
Plays text old new before after (Ok done) =
    (start : Option (List ℕ)) → Appends start before (lines_before old) → Appends start after (lines_before new)
Plays text old new before after (Err halt) =
    (start : Option (List ℕ)) → Appends start before (lines_before old) → HaltsThere text new start after halt

-- ---- one event

-- an event was done and its entry told; or it was done, and the sink has a beginning of its entry; or it isn't done
abbrev pub NotesEvent : {T : Type 0} → Past → Event → Past → Option (List ℕ) → Option (List ℕ) → Result T Halt → Type 0
NotesEvent old event new before after (Ok done) = (g : GoesOn old event new) × Appends before after (entry_text (length old.journal + 1) g.entry)
NotesEvent old event new before after (Err halts.Sink) = (g : GoesOn old event new) × AppendsFront before after (entry_text (length old.journal + 1) g.entry)
NotesEvent old event new before after (Err halts.Forged) =
    ((number : ℕ) × (what : What) × IsRefused old event (stops.Forged number what) new) × (after ≡ before)
NotesEvent old event new before after (Err halts.Memory) = after ≡ before
NotesEvent old event new before after (Err halts.Source) = ⊥
NotesEvent old event new before after (Err (halts.Read ending)) = ⊥

-- its last entry was written, or the sink has a beginning of it
pub record WritesLast (journal : List Entry) (before after : Option (List ℕ)) (Holds : List ℕ → Type 0) : Type 0 where
  pub first : List Entry
  pub entry : Entry
  pub is : journal ≡ first ++ entry ∷ []
  pub holds : Holds (entry_text (length first + 1) entry)

-- the last line of a journal is written, or why not
abbrev pub NotesLast : {T : Type 0} → List Entry → Option (List ℕ) → Option (List ℕ) → Result T Halt → Type 0
NotesLast journal before after (Ok done) = WritesLast journal before after (Appends before after)
NotesLast journal before after (Err halts.Sink) = WritesLast journal before after (AppendsFront before after)
NotesLast journal before after (Err halts.Memory) = after ≡ before
NotesLast journal before after (Err halts.Source) = ⊥
NotesLast journal before after (Err halts.Forged) = ⊥
NotesLast journal before after (Err (halts.Read ending)) = ⊥

-- ---- how a replay has read its source

-- it came to the end of what is read, or to the first bad line
pub record IsReadTo (left : Option (List ℕ)) (world : Option Past) (before after : Option (List ℕ)) (ending : Ending) : Type 0 where
  pub text : List ℕ
  pub is_cut : Bool
  pub input : IsInput left MAX_INPUT_BYTES text is_cut
  pub stage : Stage
  pub reading : IsReading text is_cut (record { stage = stage; ending = ending })
  pub good : IsGoodStage stage
  pub done : AreDone stage world
  pub written : Appends before after (lines_before world)

-- it came to an event of which anything is forged
pub record IsForgedTo (left : Option (List ℕ)) (world : Option Past) (before after : Option (List ℕ)) : Type 0 where
  pub text : List ℕ
  pub is_cut : Bool
  pub input : IsInput left MAX_INPUT_BYTES text is_cut
  pub past : Past
  pub is : world ≡ Some past
  pub number : ℕ
  pub what : What
  pub forged : IsForgedOf text is_cut past number what
  pub short : IsShort past
  pub buffers : HasBuffers past
  pub written : Appends before after (journal_lines past.journal)

-- something outside failed
pub record IsBegunTo (left : Option (List ℕ)) (world : Option Past) (before after : Option (List ℕ)) : Type 0 where
  pub buffers : IfSome world HasBuffers
  pub begun : IsBegun left world before after

-- the sink failed
pub record IsSunkTo (left : Option (List ℕ)) (world : Option Past) (before after : Option (List ℕ)) : Type 0 where
  pub buffers : IfSome world HasBuffers
  pub sunk : IsSunk left world before after

-- where a replay halts, by what is left of its text
abbrev pub HaltsAt : Option (List ℕ) → Option (List ℕ) → Option Past → Option (List ℕ) → Option (List ℕ) → Halt → Type 0
HaltsAt left rest world before after (halts.Read ending) = IsReadTo left world before after ending
HaltsAt left rest world before after halts.Forged = IsForgedTo left world before after
HaltsAt left rest world before after halts.Sink = IsSunkTo left world before after
HaltsAt left rest world before after halts.Memory = IsBegunTo left None before after
HaltsAt left rest world before after halts.Source = IsBegunTo left world before after × IsBrokenOff left rest world before after

-- ---- the last line

-- the last line of a replay whose text ended so
abbrev pub line_at : Option Past → Ending → List ℕ
line_at None endings.Whole = []
line_at (Some past) endings.Whole = line_text (summary_words past.journal)
line_at world (endings.Refused line kind) = refused_line line kind

-- the last line of a run that stopped
abbrev pub line_of_stop : Option WorldRefused → List ℕ
line_of_stop None = []
line_of_stop (Some (stops.Forged number what)) = forged_line number what
line_of_stop (Some stops.Memory) = []

-- the last line that a replay writes which came to its end
abbrev pub line_after : Halt → Option Past → List ℕ
line_after (halts.Read ending) world = line_at world ending
line_after halts.Forged (Some past) = line_of_stop past.stopped
line_after _ world = []

-- the status of a replay that halts so
abbrev pub status_at : Halt → Status
status_at (halts.Read endings.Whole) = statuses.Done
status_at (halts.Read (endings.Refused line kind)) = statuses.Refused
status_at halts.Forged = statuses.Forged
status_at halts.Source = statuses.Source
status_at halts.Sink = statuses.Sink
status_at halts.Memory = statuses.Memory

-- something of an event is forged
abbrev pub IsStopped : Option WorldRefused → Type 0
IsStopped (Some (stops.Forged number what)) = Unit {0}
IsStopped _ = ⊥

-- it came to its end: where its text was read whole there is a world, which may be told; where something is forged, the world names it
abbrev pub CanEnd : Halt → Option Past → Type 0
CanEnd (halts.Read endings.Whole) None = ⊥
CanEnd (halts.Read endings.Whole) (Some past) = IsShort past
CanEnd (halts.Read (endings.Refused line kind)) world = Unit {0}
CanEnd halts.Forged None = ⊥
CanEnd halts.Forged (Some past) = IsStopped past.stopped
CanEnd _ world = ⊥

-- this line was written, and the run ends as it would; or the sink has a beginning of it; or there was no memory for it
abbrev pub TellsEnd : Status → List ℕ → Option Past → Option Past → Status → Option (List ℕ) → Option (List ℕ) → Type 0
TellsEnd would line world left status before after =
    ((status ≡ would) × (left ≡ world) × Appends before after line)
    ⊎ (((status ≡ statuses.Sink) × (left ≡ world) × AppendsFront before after line) ⊎ ((status ≡ statuses.Memory) × (left ≡ None) × (after ≡ before)))

-- ---- faults

-- the sink's count rose exactly where it failed, or it stayed
abbrev pub SinkCounts : Halt → ℕ → ℕ → Type 0
SinkCounts halts.Sink before after = Rose before after
SinkCounts (halts.Read ending) before after = after ≡ before
SinkCounts halts.Forged before after = after ≡ before
SinkCounts halts.Source before after = after ≡ before
SinkCounts halts.Memory before after = after ≡ before

-- a fault of the sink counts where that is why a replay halts
abbrev pub SinkCountsIn : {T : Type 0} → Result T Halt → ℕ → ℕ → Type 0
SinkCountsIn (Ok done) before after = after ≡ before
SinkCountsIn (Err halt) before after = SinkCounts halt before after

-- so with the source's
abbrev pub SourceCounts : Halt → ℕ → ℕ → Type 0
SourceCounts halts.Source before after = Rose before after
SourceCounts (halts.Read ending) before after = after ≡ before
SourceCounts halts.Forged before after = after ≡ before
SourceCounts halts.Sink before after = after ≡ before
SourceCounts halts.Memory before after = after ≡ before

-- ---- a journal begins

-- the world of a header was made, and the first line of its journal written; or the sink has a beginning of it; or there was no memory
abbrev pub Begins : {T : Type 0} → Scenario → Option Past → Option (List ℕ) → Option (List ℕ) → Result T Halt → Type 0
Begins s world before after (Ok done) = (world ≡ Some (at_first s)) × Appends before after (journal_lines [])
Begins s world before after (Err halts.Sink) = (world ≡ Some (at_first s)) × AppendsFront before after (journal_lines [])
Begins s world before after (Err halts.Memory) = after ≡ before
Begins s world before after (Err halts.Source) = ⊥
Begins s world before after (Err halts.Forged) = ⊥
Begins s world before after (Err (halts.Read ending)) = ⊥
