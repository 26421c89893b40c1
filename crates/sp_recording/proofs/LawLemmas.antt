-- The laws of readings.
use Rattle.std.proofs.Common.{◌≡◌, ◌≤◌, ◌<◌, ◌^◌, ℕ, ◌+◌, List, [], ◌∷◌, ◌++◌, length, map, Result, Ok, Err, Option, Some, None, refl, sym, ap, ◌∙◌, subst}
use Rattle.std.proofs.Common.{append-nil, length-append, arith}
use Rattle.std.specs.Prelude.{IfOk}
use Rattle.std.specs.List.{flat_map, join_with_byte}
use Rattle.std.proofs.lemmas.List.{length-map}
use Rattle.sp_base.specs.declared.limits.TheConstants.{MAX_INPUT_BYTES}
use Rattle.sp_base.specs.declared.id.NodeId.{NodeId}
use Rattle.sp_base.specs.declared.memory.Memory.{Memory}
use Rattle.sp_text.specs.Spelling.{Word}
use Rattle.sp_lines.specs.Rows.{line_text}
use Rattle.sp_lines.specs.Texts.{At_end, Bad_words, Leads, No_words, Nothing_left, Stop}
use Rattle.sp_lines.specs.declared.fault.Fault.{Fault}
use Rattle.sp_lines.proofs.LeadLemmas.{leads_on, led_by, one_lead, whole_lines}
use Rattle.sp_recording.specs.Laws.{GoodRecordingsAreRead, OneReading, ReadingsAreOfTheirText}
use Rattle.sp_recording.specs.Reading.{IsGoodStage, IsReading, at_end, ending_of, lines_in, lines_to, says, stage_of}
use Rattle.sp_recording.specs.RecordingText.{closing_words, line_words, recording_lines, recording_text}
use Rattle.sp_recording.specs.declared.line.Closing.{Closing}
use Rattle.sp_recording.specs.declared.line.Line.{Line}
use Rattle.sp_recording.specs.declared.line.Opening.{Opening}
use Rattle.sp_recording.specs.declared.stage.Ending.{Ending}
use Rattle.sp_recording.specs.declared.stage.Ending.TheVariants as endings
use Rattle.sp_recording.specs.declared.stage.Reading.{Reading}
use Rattle.sp_recording.specs.declared.stage.Stage.{Stage}
use Rattle.sp_recording.specs.declared.stage.Stage.TheVariants as stages
use Rattle.sp_recording.proofs.StageLemmas.{all_lines}
use Rattle.sp_recording.proofs.WalkLemmas.{recording_follows}

-- the stage of a reading is good
pub good_stage : (total : ℕ) (near : List NodeId) (before : ℕ) (text : List ℕ) (reading : Reading) → total < 2 ^ 64 → IsReading total near before text reading
    → IsGoodStage total near reading.stage
good_stage total near before text reading few is =
    let led = led_by (says total near) is.leads in
    (all_lines total near led.lines stages.Start reading.stage few tt led.follows).1

-- or memory was wanting
pub good_answer : (total : ℕ) (near : List NodeId) (before : ℕ) (text : List ℕ) (answer : Result Reading Memory) → total < 2 ^ 64
    → IfOk answer (IsReading total near before text)
    → IfOk answer (λ reading. IsGoodStage total near reading.stage)
good_answer total near before text (Ok reading) few is = good_stage total near before text reading few is
good_answer total near before text (Err e) few is = tt

-- a whole reading stops where nothing is left
whole_stop : (stage : Stage) (line : ℕ) (stop : Stop Fault) → ending_of stage line stop ≡ endings.Whole → stop ≡ Nothing_left
whole_stop stage line Nothing_left is = refl
whole_stop stage line (No_words refused) is = absurd cc
whole_stop stage line (Bad_words fault) is = absurd cc

-- a bad line has the number where the reading stopped
bad_line : (stage : Stage) (at line : ℕ) (stop : Stop Fault) → ending_of stage at stop ≡ endings.Form line → line ≡ at
bad_line stages.Start at line Nothing_left is = cc
bad_line (stages.Lines o ls held) at line Nothing_left is = absurd cc
bad_line (stages.End o ls c) at line Nothing_left is = absurd cc
bad_line stage at line (No_words refused) is = cc
bad_line stage at line (Bad_words fault) is = cc

-- nothing is left of lines that are the whole text
nothing_more : (all lines : List ℕ) (rest text : List ℕ) → text ≡ all ++ rest → text ≡ lines → all ≡ lines → rest ≡ []
nothing_more all lines rest text a b c = ends all rest (sym a ∙ b ∙ sym c)
  where
    ends : (xs ys : List ℕ) → xs ++ ys ≡ xs → ys ≡ []
    ends [] ys is = is
    ends (x ∷ xs) ys is = ends xs ys (cc)

pub readings_are_of_their_text : ReadingsAreOfTheirText
readings_are_of_their_text total near before text reading few is =
    let led = led_by (says total near) is.leads in
    let all = all_lines total near led.lines stages.Start reading.stage few tt led.follows in
    record {
      good = all.1;
      rest = led.rest;
      spelled = led.spelled ∙ ap (λ (ls : List (List Word)). flat_map line_text ls ++ led.rest) (sym all.0);
      whole = λ whole.
          let lines = whole_lines (says total near) is.leads (whole_stop reading.stage (before + is.line) is.stop (sym is.ends ∙ whole)) in
          let again = all_lines total near lines.lines stages.Start reading.stage few tt lines.follows in
          nothing_more (flat_map line_text led.lines) (flat_map line_text lines.lines) led.rest text led.spelled lines.spelled
          (ap (flat_map line_text) (sym all.0 ∙ again.0));
      bad = λ line bad. bad_line reading.stage (before + is.line) line is.stop (sym is.ends ∙ bad) ∙ ap (λ (n : ℕ). before + n) led.count
          ∙ ap (λ (ls : List (List Word)). before + (1 + length ls)) (sym all.0);
    }

at_whole : (o : Opening) (ls : List Line) (c : Option Closing) (line : ℕ) → at_end (stage_of o ls c) line ≡ endings.Whole
at_whole o ls None line = refl
at_whole o ls (Some c) line = refl

pub good_recordings_are_read : GoodRecordingsAreRead
unfolding recording_text
good_recordings_are_read total near before o ls c few good =
    let lines = recording_lines o ls c in
    let last = stage_of o ls c in
    let follows = recording_follows total near few o ls c good in
    let all : Leads (says total near) stages.Start 1 (flat_map line_text lines ++ []) last (1 + length lines) Nothing_left =
    leads_on (says total near) lines stages.Start last follows.follows follows.good [] last Nothing_left (1 + length lines) 1 At_end in
    record {
      line = 1 + length lines;
      stop = Nothing_left;
      leads = subst (λ (t : List ℕ). Leads (says total near) stages.Start 1 t last (1 + length lines) Nothing_left) (append-nil (flat_map line_text lines)) all;
      ends = sym (at_whole o ls c (before + (1 + length lines)));
    }

pub one_reading : OneReading
one_reading total near before text a b x y =
    let same = one_lead (says total near) x.leads y.leads in
    let ends : a.ending ≡ b.ending = x.ends ∙ rw (same.stage, same.line, same.stop) refl ∙ sym y.ends in
    let parts : Stage → Ending → Reading = λ stage ending. record { stage = stage; ending = ending } in
    let all : parts a.stage a.ending ≡ parts b.stage b.ending = rw (same.stage, ends) refl in
    all

-- ---- how many lines there are

some_bytes : (words : List Word) → 1 ≤ length (line_text words)
some_bytes words = omega (arith, length-append (join_with_byte 32 words) (10 ∷ []))

no_fewer_bytes : (ls : List (List Word)) → length ls ≤ length (flat_map line_text ls)
no_fewer_bytes [] = omega arith
no_fewer_bytes (words ∷ ls) = omega (arith, some_bytes words, no_fewer_bytes ls, length-append (line_text words) (flat_map line_text ls))

more_lines : (stage : Stage) → length (lines_in stage) ≤ length (lines_to stage)
more_lines stages.Start = omega arith
more_lines (stages.Lines o ls held) = omega (arith, length-map ls line_words)
more_lines (stages.End o ls c) = omega (arith, length-append (map line_words ls) (closing_words c ∷ []), length-map ls line_words)

few_lines : (total : ℕ) (near : List NodeId) (before : ℕ) (text : List ℕ) (reading : Reading) → total < 2 ^ 64 → before + length text ≤ MAX_INPUT_BYTES
    → IsReading total near before text reading
    → before + length (lines_in reading.stage) ≤ MAX_INPUT_BYTES
few_lines total near before text reading few within is =
    let of = readings_are_of_their_text total near before text reading few is in
    let long : length text ≡ length (flat_map line_text (lines_to reading.stage)) + length of.rest =
    ap length of.spelled ∙ length-append (flat_map line_text (lines_to reading.stage)) of.rest in
    omega (arith, within, long, no_fewer_bytes (lines_to reading.stage), more_lines reading.stage)

pub few_answer : (total : ℕ) (near : List NodeId) (before : ℕ) (text : List ℕ) (answer : Result Reading Memory) → total < 2 ^ 64
    → before + length text ≤ MAX_INPUT_BYTES
    → IfOk answer (IsReading total near before text) → IfOk answer (λ reading. before + length (lines_in reading.stage) ≤ MAX_INPUT_BYTES)
few_answer total near before text (Ok reading) few within is = few_lines total near before text reading few within is
few_answer total near before text (Err e) few within is = tt
