-- What was read and run, and the text that tells it: what the parts of a replay promise each other.
use Rattle.std.specs.Prelude.{ℕ, ◌≡◌, ◌≤◌, ◌++◌, Bool, List, length, Option, Some, None, IfSome}
use Rattle.sp_base.specs.declared.limits.TheConstants.{MAX_EVENTS}
use Rattle.sp_journal.specs.JournalText.{journal_lines, journal_text}
use Rattle.sp_schedule.specs.declared.stage.Stage.{Stage}
use Rattle.sp_schedule.specs.declared.stage.Ending.{Ending}
use Rattle.sp_schedule.specs.declared.stage.Ending.TheVariants as endings
use Rattle.sp_schedule.specs.Readings.{IsReading}
use Rattle.sp_schedule.specs.Refusals.{refused_line}
use Rattle.sp_world.specs.Past.{Past}
use Rattle.sp_world.specs.declared.refused.WorldRefused.{WorldRefused}
use Rattle.sp_world.specs.declared.refused.WorldRefused.TheVariants as stops
use Rattle.sp_words.specs.declared.status.Status.{Status}
use Rattle.sp_words.specs.declared.status.Status.TheVariants as statuses
use Rattle.sp_replay.specs.Outputs.{AreDone, IsForgedIn, forged_line, lines_before}
use Rattle.sp_replay.specs.Claims.{WorldClaims}

-- its events are no more than a schedule may have
abbrev pub IsShort : Past → Type 0
IsShort past = length past.events ≤ MAX_EVENTS

-- a flow may have a message
abbrev pub HasBuffers : Past → Type 0
HasBuffers past = 1 ≤ past.scenario.limits.buffer

-- how the events of a stage were run, by why the world has stopped
abbrev pub IsPlayedBy : Stage → Past → Option WorldRefused → Type 0
IsPlayedBy stage past None = AreDone stage (Some past)
IsPlayedBy stage past (Some (stops.Forged number what)) = IsForgedIn stage past number what
IsPlayedBy stage past (Some stops.Memory) = ⊥

-- how the events of a stage were run
abbrev pub AreRun : Stage → Option Past → Type 0
AreRun stage None = AreDone stage None
AreRun stage (Some past) = IsPlayedBy stage past past.stopped

-- the text of a reading of which no event is forged
abbrev pub ToldWhole : Option Past → Ending → List ℕ → Type 0
ToldWhole (Some past) endings.Whole out = out ≡ journal_text past.journal
ToldWhole None endings.Whole out = ⊥
ToldWhole past (endings.Refused line kind) out = out ≡ lines_before past ++ refused_line line kind

-- the text of a past that has stopped so
abbrev pub ToldBy : Past → Ending → Option WorldRefused → List ℕ → Type 0
ToldBy past ending None out = ToldWhole (Some past) ending out
ToldBy past ending (Some (stops.Forged number what)) out = out ≡ journal_lines past.journal ++ forged_line number what
ToldBy past ending (Some stops.Memory) out = ⊥

-- the text of a reading that was run
abbrev pub IsTextOf : Option Past → Ending → List ℕ → Type 0
IsTextOf None ending out = ToldWhole None ending out
IsTextOf (Some past) ending out = ToldBy past ending past.stopped out

-- how a reading ends that has a forged event, or none
abbrev pub status_by : Option WorldRefused → Ending → Status
status_by None endings.Whole = statuses.Done
status_by None (endings.Refused line kind) = statuses.Refused
status_by (Some stopped) ending = statuses.Forged

-- the status of a replay whose text ended so
abbrev pub status_of : Option Past → Ending → Status
status_of None ending = status_by None ending
status_of (Some past) ending = status_by past.stopped ending

-- what was read and run, and the text that tells it
pub record IsPlayed (text : List ℕ) (is_cut : Bool) (world : Option Past) (status : Status) (out : List ℕ) : Type 0 where
  pub stage : Stage
  pub ending : Ending
  pub reading : IsReading text is_cut (record { stage = stage; ending = ending })
  pub run : AreRun stage world
  pub claims : IfSome world WorldClaims
  pub status_is : status ≡ status_of world ending
  pub text_is : IsTextOf world ending out
