-- The laws of readings.
use Rattle.std.proofs.Common.{◌≡◌, ℕ, ◌+◌, Bool, false, List, [], ◌∷◌, ◌++◌, length, take, Result, Ok, Err, refl, sym, ap, ◌∙◌, subst, append-nil}
use Rattle.std.specs.Prelude.{IfOk}
use Rattle.std.specs.List.{flat_map}
use Rattle.sp_base.specs.declared.memory.Memory.{Memory}
use Rattle.sp_lines.specs.Rows.{line_text}
use Rattle.sp_lines.specs.Texts.{At_end, Bad_words, Leads, No_words, Nothing_left, Stop, follow_all}
use Rattle.sp_lines.proofs.LeadLemmas.{leads_on, led_by, one_lead, stops_there, whole_lines}
use Rattle.sp_schedule.specs.Feeds.{Fed, text_of, text_to}
use Rattle.sp_schedule.specs.Laws.{GoodTextsAreRead, IsFedWith, NoOtherBeginsThere, OneReading, PiecesAreReadAsOne, Pushed, Read, ReadingsAreOfTheirText, Unfed}
use Rattle.sp_schedule.proofs.FeedLemmas.{piece_taken, step}
use Rattle.sp_schedule.specs.Lines.{says}
use Rattle.sp_schedule.specs.Readings.{IsGoodStage, IsReading, ending_of}
use Rattle.sp_schedule.specs.Scenarios.{IsSchedule}
use Rattle.sp_schedule.specs.Spelling.{schedule_lines, schedule_text}
use Rattle.sp_schedule.specs.declared.refused.Kind.{Kind}
use Rattle.sp_schedule.specs.declared.refused.Kind.TheVariants as kinds
use Rattle.sp_schedule.specs.declared.stage.Ending.{Ending}
use Rattle.sp_schedule.specs.declared.stage.Ending.TheVariants as endings
use Rattle.sp_schedule.specs.declared.stage.Reading.{Reading}
use Rattle.sp_schedule.specs.declared.stage.Stage.{Stage}
use Rattle.sp_schedule.specs.declared.stage.Stage.TheVariants as stages
use Rattle.sp_schedule_events.specs.declared.scenario.Scenario.{Scenario}
use Rattle.sp_schedule_events.specs.declared.event.Event.{Event}
use Rattle.sp_schedule.proofs.StageLemmas.{AreGood, all_lines, is_good_stage}
use Rattle.std.proofs.lemmas.Grind.{flat_map-append}
use Rattle.sp_schedule.proofs.WalkLemmas.{schedule_follows}

-- the stage of a reading is good
pub good_stage : (text : List ℕ) (is_cut : Bool) (reading : Reading) → IsReading text is_cut reading → IsGoodStage reading.stage
good_stage text is_cut reading is =
    let led = led_by says is.leads in
    is_good_stage reading.stage (all_lines led.lines stages.Start reading.stage tt led.follows).1

-- or memory was wanting
pub good_answer : (text : List ℕ) (is_cut : Bool) (answer : Result Reading Memory) → IfOk answer (IsReading text is_cut)
    → IfOk answer (λ reading. IsGoodStage reading.stage)
good_answer text is_cut (Ok reading) is = good_stage text is_cut reading is
good_answer text is_cut (Err e) is = tt

-- a whole reading stops where nothing is left
whole_stop : (stage : Stage) (line : ℕ) (stop : Stop Kind) → ending_of false stage line stop ≡ endings.Whole → stop ≡ Nothing_left
whole_stop stage line Nothing_left is = refl
whole_stop stage line (No_words refused) is = absurd cc
whole_stop stage line (Bad_words kind) is = absurd cc

pub readings_are_of_their_text : ReadingsAreOfTheirText
unfolding schedule_text
readings_are_of_their_text text reading s es is whole stage =
    let stop = whole_stop reading.stage is.line is.stop (sym is.ends ∙ whole) in
    let lines = whole_lines says is.leads stop in
    let follows : follow_all says stages.Start lines.lines ≡ Ok (stages.End s es) = lines.follows ∙ ap (λ (z : Stage). Ok z) stage in
    let all = all_lines lines.lines stages.Start (stages.End s es) tt follows in
    (all.1, lines.spelled ∙ ap (flat_map line_text) (sym all.0))

-- the lines of a schedule, whatever follows
from_lines : (s : Scenario) (es : List Event) (rest : List ℕ) (stop : Stop Kind) → IsSchedule s es
    → Leads says (stages.End s es) (1 + length (schedule_lines s es)) rest (stages.End s es) (1 + length (schedule_lines s es)) stop
    → Leads says stages.Start 1 (schedule_text s es ++ rest) (stages.End s es) (1 + length (schedule_lines s es)) stop
unfolding schedule_text
from_lines s es rest stop good on =
    let follows = schedule_follows s es good in
    leads_on says (schedule_lines s es) stages.Start (stages.End s es) follows.1 follows.0 rest (stages.End s es) stop (1 + length (schedule_lines s es)) 1 on

pub good_texts_are_read : GoodTextsAreRead
good_texts_are_read s es good =
    let all = from_lines s es [] Nothing_left good At_end in
    record {
      line = 1 + length (schedule_lines s es);
      stop = Nothing_left;
      leads = subst (λ (t : List ℕ). Leads says stages.Start 1 t (stages.End s es) (1 + length (schedule_lines s es)) Nothing_left)
          (append-nil (schedule_text s es)) all;
      ends = refl;
    }

pub one_reading : OneReading
one_reading text is_cut a b x y =
    let same = one_lead says x.leads y.leads in
    let ends : a.ending ≡ b.ending = x.ends ∙ rw (same.stage, same.line, same.stop) refl ∙ sym y.ends in
    let parts : Stage → Ending → Reading = λ stage ending. record { stage = stage; ending = ending } in
    let all : parts a.stage a.ending ≡ parts b.stage b.ending = rw (same.stage, ends) refl in
    all

pub no_other_begins_there : NoOtherBeginsThere
no_other_begins_there s t es fs rest others good_s good_t same =
    let after_s = stops_there says (stages.End s es) kinds.AfterEnd (λ words. refl) (1 + length (schedule_lines s es)) rest in
    let after_t = stops_there says (stages.End t fs) kinds.AfterEnd (λ words. refl) (1 + length (schedule_lines t fs)) others in
    let first = from_lines s es rest after_s.stop good_s after_s.leads in
    let second = from_lines t fs others after_t.stop good_t after_t.leads in
    let again = subst (λ (text : List ℕ). Leads says stages.Start 1 text (stages.End t fs) (1 + length (schedule_lines t fs)) after_t.stop) (sym same) second in
    let one : stages.End s es ≡ stages.End t fs = (one_lead says first again).stage in
    (cc, cc)

-- a feed has the text of its pieces
record IsJoined (pieces : List (List ℕ)) (fed : Fed) : Type 0 where
  text : text_of fed ≡ flat_map (λ (piece : List ℕ). piece) pieces
  good : AreGood fed.stage

is_joined : (pieces : List (List ℕ)) (fed : Fed) → IsFedWith pieces fed → IsJoined pieces fed
unfolding text_to
is_joined pieces fed Unfed = record { text = refl; good = tt }
is_joined pieces fed (Pushed {pieces = before} {old = old} piece count fed_so takes) =
    let joined = is_joined before old fed_so in
    record {
      text = piece_taken old fed piece count takes ∙ ap (λ (xs : List ℕ). xs ++ take count piece) joined.text
          ∙ sym (flat_map-append (λ (p : List ℕ). p) before (take count piece ∷ [])
          ∙ ap (λ (xs : List ℕ). flat_map (λ (p : List ℕ). p) before ++ xs) (append-nil (take count piece)));
      good = subst AreGood (sym takes.stage) joined.good;
    }
is_joined pieces fed (Read {old = old} given fed_so takes) =
    let joined = is_joined pieces old fed_so in
    let stepped = step old fed given joined.good takes in
    record { text = stepped.text ∙ joined.text; good = stepped.good }

pub pieces_are_read_as_one : PiecesAreReadAsOne
pieces_are_read_as_one pieces fed is_cut ending reading fed_so is whole =
    let joined = is_joined pieces fed fed_so in
    let same = subst (λ (text : List ℕ). IsReading text is_cut (record { stage = fed.stage; ending = ending })) joined.text is in
    one_reading (flat_map (λ (piece : List ℕ). piece) pieces) is_cut reading (record { stage = fed.stage; ending = ending }) whole same
