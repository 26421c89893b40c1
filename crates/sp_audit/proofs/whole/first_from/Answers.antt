use Rattle.std.proofs.Common.{◌<◌, ◌+◌, ℕ, length, sym, subst, arith}
use Rattle.sp_runs.specs.Scenarios.{setting_of}
use Rattle.sp_audit.specs.Firsts.{IsFirst, KeepsAt}
use Rattle.sp_audit.proofs.Firsts.{first_more, first_same}
use Rattle.sp_audit.proofs.whole.first_from.Goals as goal

pub numbers-preserved : goal.numbers-preserved
numbers-preserved c =
    let x = setting_of c.args.scenario.now in
    let es = c.args.events.now in
    let js = c.args.journal.now in
    subst (IsFirst (λ m. (b : ℕ) → b < c.numbers.b + 1 → KeepsAt x es js c.args.a b m) (length es)) (sym c.min-first.ensures)
    (first_more (λ b m. KeepsAt x es js c.args.a b m) (length es) c.numbers.b c.numbers.first c.in_ok-first_at.field-0 c.numbers.invariant
    c.in_ok-first_at.ensures)

pub returns : goal.returns
returns c =
    let x = setting_of c.args.scenario.now in
    let es = c.args.events.now in
    let js = c.args.journal.now in
    first_same (λ m. (b : ℕ) → b < c.numbers.b → KeepsAt x es js c.args.a b m) (λ m. (b : ℕ) → b < c.args.top + 1 → KeepsAt x es js c.args.a b m) (length es)
    c.numbers.first
    (λ m all b under. all b (omega (arith, c.from-b-end.ensures))) (λ m all b under. all b (omega (arith, c.from-b-end.ensures))) c.numbers.invariant
