-- What was read and run is the output that belongs to the input.
use Rattle.std.proofs.Common.{◌≡◌, ◌≤◌, ℕ, Bool, true, false, List, length, take, nat_lt, Option, Some, None, refl, sym, ap, subst, arith}
use Rattle.std.specs.Io.KnownBytes.{Appends}
use Rattle.std.proofs.lemmas.List.{take_all}
use Rattle.std.proofs.lemmas.Bool.Decides.{nat_tests}
use Rattle.sp_base.specs.declared.limits.TheConstants.{MAX_INPUT_BYTES}
use Rattle.sp_outside.specs.Streams.{IsInput}
use Rattle.sp_lines.specs.Texts.{Bad_words, No_words, Nothing_left, Stop}
use Rattle.sp_text.specs.declared.place.TextRefused.{TextRefused}
use Rattle.sp_text.specs.declared.place.TextRefused.TheVariants as texts
use Rattle.sp_schedule_events.specs.declared.scenario.Scenario.{Scenario}
use Rattle.sp_schedule_events.specs.declared.event.Event.{Event}
use Rattle.sp_schedule.specs.declared.stage.Stage.{Stage}
use Rattle.sp_schedule.specs.declared.stage.Stage.TheVariants as stages
use Rattle.sp_schedule.specs.declared.stage.Ending.{Ending}
use Rattle.sp_schedule.specs.declared.stage.Ending.TheVariants as endings
use Rattle.sp_schedule.specs.declared.stage.Reading.{Reading}
use Rattle.sp_schedule.specs.declared.refused.Kind.{Kind}
use Rattle.sp_schedule.specs.Laws.{GoodTextsAreRead, OneReading, ReadingsAreOfTheirText}
use Rattle.sp_schedule.specs.Readings.{IsReading, ending_of}
use Rattle.sp_runs.specs.declared.what.What.{What}
use Rattle.sp_world.specs.Past.{Past}
use Rattle.sp_world.specs.declared.refused.WorldRefused.{WorldRefused}
use Rattle.sp_world.specs.declared.refused.WorldRefused.TheVariants as stops
use Rattle.sp_words.specs.declared.status.Status.{Status}
use Rattle.sp_words.specs.declared.status.Status.TheVariants as statuses
use Rattle.sp_replay.specs.Claims.{Replays}
use Rattle.sp_replay.specs.Outputs.{AreDone, First_bad_line, First_forgery, IsForgedIn, IsForgery, IsOfStage, IsOutput, IsRefusal, IsRead, ReadsWhole, Spells}
use Rattle.sp_replay.specs.Outputs.{Whole_journal}
use Rattle.sp_replay.specs.Played.{AreRun, IsPlayed, IsPlayedBy, IsTextOf, ToldBy, ToldWhole, status_by, status_of}

-- ---- whole readings

-- a reading that ended well read a text that wasn't cut, up to its line `end`
pub record EndedWell (is_cut : Bool) (stage : Stage) : Type 0 where
  pub whole : is_cut ≡ false
  pub scenario : Scenario
  pub events : List Event
  pub end : stage ≡ stages.End scenario events

pub ended_well : (is_cut : Bool) (stage : Stage) (line : ℕ) (stop : Stop Kind) → endings.Whole ≡ ending_of is_cut stage line stop → EndedWell is_cut stage
ended_well true stage line Nothing_left e = absurd cc
ended_well false stage line Nothing_left e = at_end stage e
  where
    at_end : (stage : Stage) → endings.Whole ≡ ending_of false stage line Nothing_left → EndedWell false stage
    at_end (stages.End s es) e = record { whole = refl; scenario = s; events = es; end = refl }
    at_end (stages.Events s es) e = absurd cc
    at_end stages.Start e = absurd cc
    at_end (stages.Version format) e = absurd cc
    at_end (stages.Seed format seed) e = absurd cc
    at_end (stages.Height format seed height) e = absurd cc
    at_end (stages.Bounds format seed height limits) e = absurd cc
    at_end (stages.Edges s) e = absurd cc
    at_end (stages.Bads s) e = absurd cc
    at_end (stages.Epochs s) e = absurd cc
ended_well is_cut stage line (No_words refused) e = absurd (never is_cut refused e)
  where
    never : (b : Bool) (r : TextRefused) → endings.Whole ≡ ending_of b stage line (No_words r) → ⊥
    never true (texts.Cut place) e = cc
    never true (texts.LineLong place) e = cc
    never true (texts.BadWord place) e = cc
    never true (texts.BadNumber place) e = cc
    never true (texts.BadHex place) e = cc
    never true texts.Memory e = cc
    never false r e = cc
ended_well is_cut stage line (Bad_words kind) e = absurd cc

-- nothing of a short text is cut
pub short_text : (text : List ℕ) → nat_lt MAX_INPUT_BYTES (length text) ≡ false → take MAX_INPUT_BYTES text ≡ text
short_text text is = let within : length text ≤ MAX_INPUT_BYTES = grind (arith, nat_tests) in take_all MAX_INPUT_BYTES text within

-- an uncut reading of a text is one of all of it
pub uncut : (text : List ℕ) (reading : Reading) → nat_lt MAX_INPUT_BYTES (length text) ≡ false
    → IsReading (take MAX_INPUT_BYTES text) (nat_lt MAX_INPUT_BYTES (length text)) reading → IsReading text false reading
uncut text reading short is =
    let P : Bool → Type 0 = λ b. IsReading (take MAX_INPUT_BYTES text) b reading in
    let Q : List ℕ → Type 0 = λ t. IsReading t false reading in
    subst Q (short_text text short) (subst P short is)

whole_read : ReadingsAreOfTheirText → (text : List ℕ) (stage : Stage) (past : Past) → IsRead text stage endings.Whole
    → IsOfStage stage past.scenario past.events
    → Spells text past.scenario past.events
whole_read law text stage past reading of_stage =
    let well = ended_well (nat_lt MAX_INPUT_BYTES (length text)) stage reading.line reading.stop reading.ends in
    let short = well.whole in
    let all = uncut text (record { stage = stage; ending = endings.Whole }) short reading in
    let read = law text (record { stage = stage; ending = endings.Whole }) well.scenario well.events all refl well.end in
    let within : length text ≤ MAX_INPUT_BYTES = grind (arith, nat_tests) in
    let R : Stage → Type 0 = λ p. IsOfStage p past.scenario past.events in
    let same = subst R well.end of_stage in
    rw (← same.0, ← same.1) (record { schedule = read.0; spelled = read.1; size = within })

-- ---- the output

-- a text that is refused spells no schedule
pub refused_spells_none : GoodTextsAreRead → OneReading → (text : List ℕ) (stage : Stage) (line : ℕ) (kind : Kind)
    → IsRead text stage (endings.Refused line kind)
    → (s : Scenario) (es : List Event) → Spells text s es → ⊥
refused_spells_none good one text stage line kind reading s es spells =
    let within = spells.size in
    let short : nat_lt MAX_INPUT_BYTES (length text) ≡ false = grind (arith, nat_tests) in
    let refused : Reading = record { stage = stage; ending = endings.Refused line kind } in
    let read : Reading = record { stage = stages.End s es; ending = endings.Whole } in
    let all = uncut text refused short reading in
    let other = subst (λ (t : List ℕ). IsReading t false read) (sym spells.spelled) (good s es spells.schedule) in
    let same : endings.Refused line kind ≡ endings.Whole = ap (λ (r : Reading). r.ending) (one text false refused read all other) in
    cc

-- how a reading is one of the text of a source
read_of : (text bytes : List ℕ) (is_cut : Bool) (stage : Stage) (ending : Ending) → IsInput (Some text) MAX_INPUT_BYTES bytes is_cut
    → IsReading bytes is_cut (record { stage = stage; ending = ending }) → IsRead text stage ending
read_of text bytes is_cut stage ending input reading = rw (input.0, input.1) at reading

output_whole : ReadingsAreOfTheirText → (left : Option (List ℕ)) (bytes : List ℕ) (is_cut : Bool) (stage : Stage) (past : Past)
    → IsInput left MAX_INPUT_BYTES bytes is_cut
    → IsReading bytes is_cut (record { stage = stage; ending = endings.Whole }) → IsOfStage stage past.scenario past.events → ReadsWhole left past
output_whole law None bytes is_cut stage past input reading of_stage = tt
output_whole law (Some text) bytes is_cut stage past input reading of_stage =
    whole_read law text stage past (read_of text bytes is_cut stage endings.Whole input reading) of_stage

output_refused : GoodTextsAreRead → OneReading
    → (left : Option (List ℕ)) (bytes : List ℕ) (is_cut : Bool) (stage : Stage) (world : Option Past) (line : ℕ) (kind : Kind)
    → IsInput left MAX_INPUT_BYTES bytes is_cut → IsReading bytes is_cut (record { stage = stage; ending = endings.Refused line kind }) → AreDone stage world
    → IsRefusal left world line kind
output_refused good one None bytes is_cut stage world line kind input reading done = tt
output_refused good one (Some text) bytes is_cut stage world line kind input reading done =
    let read = read_of text bytes is_cut stage (endings.Refused line kind) input reading in
    record { stage = stage; reading = read; done = done; bad = refused_spells_none good one text stage line kind read }

output_forged : (left : Option (List ℕ)) (bytes : List ℕ) (is_cut : Bool) (stage : Stage) (ending : Ending) (past : Past) (number : ℕ) (what : What)
    → IsInput left MAX_INPUT_BYTES bytes is_cut → IsReading bytes is_cut (record { stage = stage; ending = ending }) → IsForgedIn stage past number what
    → IsForgery left past number what
output_forged None bytes is_cut stage ending past number what input reading forged = (forged.event, forged.next)
output_forged (Some text) bytes is_cut stage ending past number what input reading forged =
    record { stage = stage; ending = ending; reading = read_of text bytes is_cut stage ending input reading; forged = forged }

module _ (law : ReadingsAreOfTheirText) (good : GoodTextsAreRead) (one : OneReading) (left : Option (List ℕ)) (bytes : List ℕ) (is_cut : Bool)
    (input : IsInput left MAX_INPUT_BYTES bytes is_cut) (stage : Stage) where
  -- nothing is forged
  done_output : (ending : Ending) (past : Past) (out : List ℕ) → IsReading bytes is_cut (record { stage = stage; ending = ending })
      → IsOfStage stage past.scenario past.events → past.stopped ≡ None → ToldWhole (Some past) ending out
      → IsOutput left (Some past) (status_by None ending) out
  done_output endings.Whole past out reading of_stage going text =
      rw text (Whole_journal past going (output_whole law left bytes is_cut stage past input reading of_stage))
  done_output (endings.Refused line kind) past out reading of_stage going text =
      rw text (First_bad_line (Some past) line kind (output_refused good one left bytes is_cut stage (Some past) line kind input reading (of_stage, going)))

  -- by why the world has stopped
  past_output : (ending : Ending) (past : Past) (out : List ℕ) (stopped : Option WorldRefused) → past.stopped ≡ stopped
      → IsReading bytes is_cut (record { stage = stage; ending = ending }) → IsPlayedBy stage past stopped → ToldBy past ending stopped out
      → IsOutput left (Some past) (status_by stopped ending) out
  past_output ending past out None is reading played text = done_output ending past out reading played.0 is text
  past_output ending past out (Some (stops.Forged number what)) is reading played text =
      rw text (First_forgery past number what (output_forged left bytes is_cut stage ending past number what input reading played))
  past_output ending past out (Some stops.Memory) is reading played text = absurd played

  -- there is no world
  no_output : (ending : Ending) (out : List ℕ) → IsReading bytes is_cut (record { stage = stage; ending = ending }) → AreDone stage None
      → ToldWhole None ending out
      → IsOutput left None (status_by None ending) out
  no_output endings.Whole out reading done text = absurd text
  no_output (endings.Refused line kind) out reading done text =
      rw text (First_bad_line None line kind (output_refused good one left bytes is_cut stage None line kind input reading done))

  world_output : (ending : Ending) (world : Option Past) (out : List ℕ) → IsReading bytes is_cut (record { stage = stage; ending = ending })
      → AreRun stage world
      → IsTextOf world ending out → IsOutput left world (status_of world ending) out
  world_output ending None out reading run text = no_output ending out reading run text
  world_output ending (Some past) out reading run text = past_output ending past out past.stopped refl reading run text

-- what was played is the output of the input
pub played_output : ReadingsAreOfTheirText → GoodTextsAreRead → OneReading
    → (left : Option (List ℕ)) (bytes : List ℕ) (is_cut : Bool) (world : Option Past) (status : Status)
    (out : List ℕ) → IsInput left MAX_INPUT_BYTES bytes is_cut → IsPlayed bytes is_cut world status out → IsOutput left world status out
played_output law good one left bytes is_cut world status out input played =
    rw played.status_is (world_output law good one left bytes is_cut input played.stage played.ending world out played.reading played.run played.text_is)

-- the whole output of a replay was written
pub wrote_whole : (left : Option (List ℕ)) (world : Option Past) (status : Status) (out : List ℕ) (before after : Option (List ℕ))
    → IsOutput left world status out → Appends before after out → Replays left world status before after
wrote_whole left world status out before after (Whole_journal past going reads) written =
    record { output = out; is_output = Whole_journal past going reads; written = written }
wrote_whole left world status out before after (First_forgery past number what is) written =
    record { output = out; is_output = First_forgery past number what is; written = written }
wrote_whole left world status out before after (First_bad_line past line kind is) written =
    record { output = out; is_output = First_bad_line past line kind is; written = written }
