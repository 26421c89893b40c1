use Rattle.std.proofs.Common.{◌∙◌, ap, arith, ◌+◌, ◌<◌, ◌≤◌, ◌^◌, ℕ, List, Ok, length, subst, sym}
use Rattle.sp_base.specs.declared.id.NodeId.{NodeId}
use Rattle.sp_base.specs.declared.limits.TheConstants.{MAX_INPUT_BYTES}
use Rattle.sp_recording.specs.Reading.{IsGoodStage, IsReading, lines_in}
use Rattle.sp_recording.specs.declared.stage.Ending.{Ending}
use Rattle.sp_recording.specs.declared.stage.Reading.{Reading}
use Rattle.sp_recording.proofs.LawLemmas.{few_answer, good_answer}
use Rattle.sp_recording.proofs.ReadingLemmas.{ends_at_end, ends_at_line, ends_at_words, leads_on_from}
use Rattle.sp_recording.proofs.reader.read.Goals as goal

-- what is read is good, and has no more lines than the text
good_and_few : {reading : Reading} (total : ℕ) (near : List NodeId) (before : ℕ) (text : List ℕ) → total < 2 ^ 64 → before + length text ≤ MAX_INPUT_BYTES
    → IsReading total near before text reading → IsGoodStage total near reading.stage × (before + length (lines_in reading.stage) ≤ MAX_INPUT_BYTES)
good_and_few {reading} total near before text low within is =
    (good_answer total near before text (Ok reading) low is, few_answer total near before text (Ok reading) low within is)

pub returns-in-Ok-None : goal.returns-in-Ok-None
returns-in-Ok-None c =
    let is =
    ends_at_end c.args.total c.args.neighbours.now c.args.before c.args.text.now c.lines.stage c.lines.count c.lines.lines.rest c.at_end-ending.result _
    c.lines.invariant.goes_on
    (rw c.in-Ok-None.field-0-is at c.in-Ok-None.ensures) (omega arith) c.at_end-ending.ensures in
    let more = good_and_few c.args.total c.args.neighbours.now c.args.before c.args.text.now (omega arith) c.requires is in
    record { reading = is; good_stage = more.0; few = more.1 }

pub returns-in-Err : goal.returns-in-Err
returns-in-Err c =
    let is =
    subst (λ (e : Ending). IsReading c.args.total c.args.neighbours.now c.args.before c.args.text.now (record { stage = c.lines.stage; ending = e }))
    (sym c.in_ok-ending-in-Err.ensures.1)
    (ends_at_line c.args.total c.args.neighbours.now c.args.before c.args.text.now c.lines.stage c.lines.count c.lines.lines c.in-Err.refused _
    c.lines.invariant.goes_on
    c.lines.invariant.given c.in-Err.ensures c.in_ok-ending-in-Err.ensures.0 (omega arith)) in
    let more = good_and_few c.args.total c.args.neighbours.now c.args.before c.args.text.now (omega arith) c.requires is in
    record { reading = is; good_stage = more.0; few = more.1 }

pub returns-in-Bad : goal.returns-in-Bad
returns-in-Bad c =
    let takes = rw c.in-Ok-Some.field-0-is at c.in-Ok-Some.ensures in
    let is =
    ends_at_words c.args.total c.args.neighbours.now c.args.before c.args.text.now c.lines.stage c.lines.count c.in-Bad.stage c.lines.lines.rest
    c.next_words.new.lines.rest _ c.in_ok-next.field-0 _
    c.lines.invariant.goes_on (rw c.lines.invariant.given at takes.2) (rw c.as_slice.ensures.value at c.in_ok-next.ensures) c.in-Bad.is (omega arith) in
    let more = good_and_few c.args.total c.args.neighbours.now c.args.before c.args.text.now (omega arith) c.requires is in
    record { reading = is; good_stage = more.0; few = more.1 }

pub lines-preserved : goal.lines-preserved
lines-preserved c =
    let takes = rw c.in-Ok-Some.field-0-is at c.in-Ok-Some.ensures in
    record {
      given = takes.0 ∙ ap (λ (n : ℕ). n + 1) c.lines.invariant.given;
      fits = omega (arith, takes.1, c.lines.invariant.fits);
      goes_on = leads_on_from c.args.total c.args.neighbours.now c.args.before c.args.text.now c.lines.stage c.lines.count c.in-To.next c.lines.lines.rest
          c.next_words.new.lines.rest _ c.in_ok-next.field-0
          c.lines.invariant.goes_on (rw c.lines.invariant.given at takes.2) (rw c.as_slice.ensures.value at c.in_ok-next.ensures) c.in-To.is;
    }
