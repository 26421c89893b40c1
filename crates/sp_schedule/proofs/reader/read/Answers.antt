use Rattle.std.proofs.Common.{◌∙◌, ap, arith, ◌+◌, Bool, ℕ, List, Ok, refl, subst, sym}
use Rattle.std.proofs.lemmas.Result.{IfOk-weaker}
use Rattle.sp_schedule.specs.Readings.{IsGoodStage, IsReading, no_words}
use Rattle.sp_schedule.specs.declared.stage.Reading.{Reading}
use Rattle.sp_schedule.proofs.LawLemmas.{good_answer}
use Rattle.sp_schedule.proofs.ReadingLemmas.{ends_at_end, ends_at_line, ends_at_words, leads_on_from}
use Rattle.sp_schedule.proofs.reader.read.Goals as goal

good : {reading : Reading} (text : List ℕ) (is_cut : Bool) → IsReading text is_cut reading → IsGoodStage reading.stage
good {reading} text is_cut is = good_answer text is_cut (Ok reading) is

pub returns-in-Ok-None : goal.returns-in-Ok-None
returns-in-Ok-None c =
    let is =
    ends_at_end c.args.text.now c.args.is_cut c.lines.stage c.lines.count c.lines.lines.rest c.nothing_left-ending.result c.lines.invariant.goes_on
    (rw c.in-Ok-None.field-0-is at c.in-Ok-None.ensures) c.nothing_left-ending.ensures in
    record { reading = is; good_stage = good c.args.text.now c.args.is_cut is }

pub returns-in-Err : goal.returns-in-Err
returns-in-Err c =
    let is =
    IfOk-weaker c.broken_off.result _ _
    (λ reading is. subst (IsReading c.args.text.now c.args.is_cut) (sym is.1)
    (ends_at_line c.args.text.now c.args.is_cut c.lines.stage c.lines.count c.lines.lines c.in-Err.refused
    (no_words c.args.is_cut (c.lines.count + 1) c.in-Err.refused)
    c.lines.invariant.goes_on c.lines.invariant.given c.in-Err.ensures (is.0, refl)))
    c.broken_off.ensures in
    record { reading = is; good_stage = good_answer c.args.text.now c.args.is_cut c.broken_off.result is }

pub returns-in-Bad : goal.returns-in-Bad
returns-in-Bad c =
    let takes = rw c.in-Ok-Some.field-0-is at c.in-Ok-Some.ensures in
    let is =
    ends_at_words c.args.text.now c.args.is_cut c.lines.stage c.in-Bad.stage c.in-Bad.kind c.lines.count c.lines.lines.rest c.next_words.new.lines.rest _
    c.follow.result
    c.lines.invariant.goes_on (rw c.lines.invariant.given at takes.2) (rw c.as_slice.ensures.value at c.follow.ensures) c.in-Bad.is in
    record { reading = is; good_stage = good c.args.text.now c.args.is_cut is }

pub lines-preserved : goal.lines-preserved
lines-preserved c =
    let takes = rw c.in-Ok-Some.field-0-is at c.in-Ok-Some.ensures in
    record {
      given = takes.0 ∙ ap (λ (n : ℕ). n + 1) c.lines.invariant.given;
      fits = omega (arith, takes.1, c.lines.invariant.fits);
      goes_on = leads_on_from c.args.text.now c.lines.stage c.in-To.next c.lines.count c.lines.lines.rest c.next_words.new.lines.rest _ c.follow.result _
          c.lines.invariant.goes_on
          (rw c.lines.invariant.given at takes.2) (rw c.as_slice.ensures.value at c.follow.ensures) c.in-To.is;
    }
