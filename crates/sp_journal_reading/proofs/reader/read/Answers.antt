use Rattle.std.proofs.Common.{◌∙◌, ap, arith, ◌+◌, ℕ}
use Rattle.sp_journal_reading.proofs.TextLemmas.{good_answer}
use Rattle.sp_journal_reading.proofs.ReadingLemmas.{ends_at_end, ends_at_line, ends_at_words, leads_on_from}
use Rattle.sp_journal_reading.proofs.reader.read.Goals as goal

pub returns-in-Ok-None : goal.returns-in-Ok-None
returns-in-Ok-None c =
    let is =
    ends_at_end c.args.text.now c.lines.stage c.lines.count c.lines.lines.rest c.ended.result c.lines.invariant.goes_on
    (rw c.in-Ok-None.field-0-is at c.in-Ok-None.ensures) c.ended.ensures in
    record { read = is; good = good_answer c.args.text.now c.ended.result is }

pub returns-in-Err : goal.returns-in-Err
returns-in-Err c =
    let is =
    ends_at_line c.args.text.now c.lines.stage c.lines.count c.lines.lines c.in-Err.refused c.no_words.result c.lines.invariant.goes_on
    c.lines.invariant.given c.in-Err.ensures c.no_words.ensures in
    record { read = is; good = tt }

pub returns-in-Err-Bad : goal.returns-in-Err-Bad
returns-in-Err-Bad c =
    let takes = rw c.in-Ok-Some.field-0-is at c.in-Ok-Some.ensures in
    let is =
    ends_at_words c.args.text.now c.lines.stage c.in-Err-Bad.field-0-0 c.lines.count c.lines.lines.rest c.next_words.new.lines.rest _ c.lines.invariant.goes_on
    (rw c.lines.invariant.given at takes.2) (rw (c.as_slice.ensures.value, c.in-Err-Bad.field-0-is) at c.in-Err-Bad.ensures) in
    record { read = is; good = tt }

pub lines-preserved : goal.lines-preserved
lines-preserved c =
    let takes = rw c.in-Ok-Some.field-0-is at c.in-Ok-Some.ensures in
    record {
      given = takes.0 ∙ ap (λ (n : ℕ). n + 1) c.lines.invariant.given;
      fits = omega (arith, takes.1, c.lines.invariant.fits);
      goes_on = leads_on_from c.args.text.now c.lines.stage c.in-Ok.next c.lines.count c.lines.lines.rest c.next_words.new.lines.rest _
          c.lines.invariant.goes_on
          (rw c.lines.invariant.given at takes.2) (rw c.as_slice.ensures.value at c.in-Ok.ensures);
    }
