use Rattle.std.proofs.Common.{arith}
use Rattle.sp_lines.proofs.NextLemmas.{line_refused, taken, words_refused, words_taken}
use Rattle.sp_lines.proofs.next_line.next_words.Goals as goal

pub returns-in_err-line : goal.returns-in_err-line
returns-in_err-line c =
    line_refused _ c.args.lines.now c.next.new.self c.next.new.self c.in_err-line.field-0.0 c.from_residual.result c.in_err-line.ensures
    c.from_residual.ensures.1

pub words-requires : goal.words-requires
words-requires c =
    let line = taken c.args.lines.now c.next.new.self c.in-Some.line (rw c.in-Some.is at c.in_ok-line.ensures) in
    omega (arith, line.short)

pub returns-in_err-words : goal.returns-in_err-words
returns-in_err-words c =
    words_refused _ c.args.lines.now c.next.new.self c.next.new.self c.in-Some.line c.in_err-words.field-0.0 c.from_residual-in_err-words.result
    (rw c.in-Some.is at c.in_ok-line.ensures)
    c.in_err-words.ensures c.from_residual-in_err-words.ensures.1

pub returns : goal.returns
returns c = words_taken c.args.lines.now c.next.new.self c.in-Some.line _ (rw c.in-Some.is at c.in_ok-line.ensures) c.in_ok-words.ensures
