use Rattle.std.proofs.Common.{◌<◌, ◌+◌, ℕ, length, sym, subst, arith}
use Rattle.sp_runs.specs.Scenarios.{setting_of}
use Rattle.sp_audit.specs.Firsts.{IsFirst, KeepsAt}
use Rattle.sp_audit.proofs.Firsts.{first_more, first_same}
use Rattle.sp_audit.proofs.Kept.{broken_at, first_broken, none_broken}
use Rattle.sp_audit.proofs.whole.audit.Goals as goal

pub numbers-preserved : goal.numbers-preserved
numbers-preserved c =
    let x = setting_of c.args.scenario.now in
    let es = c.args.events.now in
    let js = c.args.journal.now in
    let top = c.top_of-top.result in
    subst (IsFirst (λ m. (a : ℕ) → a < c.numbers.a + 1 → (b : ℕ) → b < top + 1 → KeepsAt x es js a b m) (length es)) (sym c.min-first.ensures)
    (first_more (λ a m. (b : ℕ) → b < top + 1 → KeepsAt x es js a b m) (length es) c.numbers.a c.numbers.first c.in_ok-first_from.field-0 c.numbers.invariant
    c.in_ok-first_from.ensures)

pub returns-then-first-events-clause-refused : goal.returns-then-first-events-clause-refused
returns-then-first-events-clause-refused c =
    let x = setting_of c.args.scenario.now in
    let es = c.args.events.now in
    let js = c.args.journal.now in
    let top = c.top_of-top.result in
    broken_at x es js c.numbers.first c.if-first-events.true
    (first_broken x es js top c.numbers.first c.top_of-top.ensures
    (first_same (λ m. (a : ℕ) → a < c.numbers.a → (b : ℕ) → b < top + 1 → KeepsAt x es js a b m)
    (λ m. (a : ℕ) → a < top + 1 → (b : ℕ) → b < top + 1 → KeepsAt x es js a b m) (length es) c.numbers.first
    (λ m all a under. all a (omega (arith, c.from-a-end.ensures))) (λ m all a under. all a (omega (arith, c.from-a-end.ensures))) c.numbers.invariant))

pub returns-clause-good : goal.returns-clause-good
returns-clause-good c =
    let x = setting_of c.args.scenario.now in
    let es = c.args.events.now in
    let js = c.args.journal.now in
    let top = c.top_of-top.result in
    none_broken x es js c.numbers.first c.requires.even c.if-first-events.false
    (first_broken x es js top c.numbers.first c.top_of-top.ensures
    (first_same (λ m. (a : ℕ) → a < c.numbers.a → (b : ℕ) → b < top + 1 → KeepsAt x es js a b m)
    (λ m. (a : ℕ) → a < top + 1 → (b : ℕ) → b < top + 1 → KeepsAt x es js a b m) (length es) c.numbers.first
    (λ m all a under. all a (omega (arith, c.from-a-end.ensures))) (λ m all a under. all a (omega (arith, c.from-a-end.ensures))) c.numbers.invariant))
