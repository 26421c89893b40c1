-- The reading of a whole text: its good lines, the first bad one, and why that is refused.
use Rattle.std.specs.Prelude.{ℕ, ◌≡◌, Bool, true, false, List}
use Rattle.sp_text.specs.declared.place.TextRefused.{TextRefused}
use Rattle.sp_text.specs.declared.place.TextRefused.TheVariants as texts
use Rattle.sp_lines.specs.Texts.{Bad_words, Leads, No_words, Nothing_left, Stop}
use Rattle.sp_schedule.specs.Lines.{says}
use Rattle.sp_schedule.specs.Refusals.{text_kind}
use Rattle.sp_schedule.specs.Scenarios.{IsSchedule}
use Rattle.sp_schedule.specs.declared.stage.Ending.{Ending}
use Rattle.sp_schedule.specs.declared.stage.Ending.TheVariants as endings
use Rattle.sp_schedule.specs.declared.stage.Reading.{Reading}
use Rattle.sp_schedule.specs.declared.stage.Stage.{Stage}
use Rattle.sp_schedule.specs.declared.stage.Stage.TheVariants as stages
use Rattle.sp_schedule.specs.declared.refused.Kind.{Kind}
use Rattle.sp_schedule.specs.declared.refused.Kind.TheVariants as kinds

-- the text ends before the line of this number
abbrev pub at_end : Stage → ℕ → Ending
at_end (stages.End s es) line = endings.Whole
at_end (stages.Events s es) line = endings.Refused line kinds.NoEnd
at_end _ line = endings.Refused line kinds.Header

-- a line that isn't words. Where the text is cut, its last line may only go on beyond the cut
abbrev pub no_words : Bool → ℕ → TextRefused → Ending
no_words true line (texts.Cut place) = endings.Refused 0 kinds.TooBig
no_words is_cut line refused = endings.Refused line (text_kind refused)

-- how a text ends when nothing is left of it
abbrev pub nothing_left : Bool → Stage → ℕ → Ending
nothing_left true stage line = endings.Refused 0 kinds.TooBig
nothing_left false stage line = at_end stage line

-- how a reading ends that is stopped at a stage before the line of this number. A text that is cut had more bytes than may be read
abbrev pub ending_of : Bool → Stage → ℕ → Stop Kind → Ending
ending_of is_cut stage line Nothing_left = nothing_left is_cut stage line
ending_of is_cut stage line (No_words refused) = no_words is_cut line refused
ending_of is_cut stage line (Bad_words kind) = endings.Refused line kind

-- the text, of which there is more where it is cut, is read so
pub record IsReading (text : List ℕ) (is_cut : Bool) (reading : Reading) : Type 0 where
  pub line : ℕ
  pub stop : Stop Kind
  pub leads : Leads says stages.Start 1 text reading.stage line stop
  pub ends : reading.ending ≡ ending_of is_cut reading.stage line stop

-- what holds of what was read: after the header the scenario and the events are in their ranges
abbrev pub IsGoodStage : Stage → Type 0
IsGoodStage (stages.Events s es) = IsSchedule s es
IsGoodStage (stages.End s es) = IsSchedule s es
IsGoodStage _ = Unit {0}
