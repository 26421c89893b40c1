use Rattle.std.proofs.Common.{ap, arith, ◌∙◌, ◌+◌, Err, List, map, subst, ℕ}
use Rattle.sp_text.specs.Spelling.{Word}
use Rattle.sp_graph.specs.Lines.{Says}
use Rattle.sp_graph.specs.Refusals.{UnlessMemory}
use Rattle.sp_graph.proofs.ReadingLemmas.{ends, goes_on, line_refused, none_left, stage_refused, taken, words_refused}
use Rattle.sp_graph.proofs.reader.read_lines.Goals as goal

pub words-requires : goal.words-requires
words-requires c =
    let line = taken c.lines.count c.lines.lines c.next.new.self c.in-Some.line c.lines.invariant.given (rw c.in-Some.is at c.in_ok-line.ensures) in
    omega (arith, line.short)

pub returns-in_err-line : goal.returns-in_err-line
returns-in_err-line c =
    line_refused c.args.text.now c.lines.stage c.lines.count c.lines.lines c.next.new.self c.from_residual.result c.in_err-line.field-0.0
    c.lines.invariant.goes_on c.lines.invariant.given
    c.in_err-line.ensures c.from_residual.ensures.1

pub returns-in_err-words : goal.returns-in_err-words
returns-in_err-words c =
    words_refused (λ (ws : List Word). ws) c.args.text.now c.lines.stage c.lines.count c.lines.lines c.next.new.self c.in-Some.line
    c.from_residual-in_err-words.result c.in_err-words.field-0.0
    c.lines.invariant.goes_on c.lines.invariant.given (rw c.in-Some.is at c.in_ok-line.ensures) c.in_err-words.ensures c.from_residual-in_err-words.ensures.1

pub returns-in_err-stage : goal.returns-in_err-stage
returns-in_err-stage c =
    stage_refused c.args.text.now c.lines.stage c.lines.count c.lines.lines c.next.new.self c.in-Some.line (map (λ w. w.now) c.as_slice.result.now)
    c.from_residual-in_err-stage.result
    c.in_err-stage.field-0.0 c.lines.invariant.goes_on c.lines.invariant.given (rw c.in-Some.is at c.in_ok-line.ensures)
    (rw c.as_slice.ensures.value c.in_ok-words.ensures)
    (subst (λ (f : ℕ). UnlessMemory (Says f (c.lines.count + 1) (map (λ w. w.now) c.as_slice.result.now) c.lines.stage) (Err c.in_err-stage.field-0.0))
    c.requires.format
    c.in_err-stage.ensures) c.from_residual-in_err-stage.ensures.1

pub lines-smaller : goal.lines-smaller
lines-smaller c =
    let line = taken c.lines.count c.lines.lines c.next.new.self c.in-Some.line c.lines.invariant.given (rw c.in-Some.is at c.in_ok-line.ensures) in
    omega (arith, line.less)

pub lines-preserved : goal.lines-preserved
lines-preserved c =
    let takes = rw c.in-Some.is at c.in_ok-line.ensures in
    let line = taken c.lines.count c.lines.lines c.next.new.self c.in-Some.line c.lines.invariant.given takes in
    record {
      given = takes.1 ∙ ap (λ (n : ℕ). n + 1) c.lines.invariant.given;
      fits = omega (arith, line.less, c.lines.invariant.fits);
      goes_on = goes_on c.args.text.now c.lines.stage c.in_ok-stage.stage c.lines.count c.lines.lines c.next.new.self c.in-Some.line
          (map (λ w. w.now) c.as_slice.result.now)
          c.lines.invariant.goes_on c.lines.invariant.given takes (rw c.as_slice.ensures.value c.in_ok-words.ensures)
          (rw c.requires.format at c.in_ok-stage.ensures);
    }

pub returns : goal.returns
returns c =
    ends c.args.text.now c.lines.stage c.lines.count c.lines.lines.rest c.ending.result c.lines.invariant.goes_on
    (none_left c.lines.lines c.next.new.self c.in_ok-line.field-0 c.in_ok-line.ensures c.in_default.not-Some) c.ending.ensures.ok c.ending.ensures.err
