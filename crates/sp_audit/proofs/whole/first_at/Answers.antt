use Rattle.std.proofs.Common.{ℕ, length, min, sym, subst, ap, ◌∙◌}
use Rattle.sp_runs.specs.Scenarios.{setting_of}
use Rattle.sp_audit.specs.Firsts.{IsFirst, KeepsAt}
use Rattle.sp_audit.proofs.Kept.{first_of_both, first_of_one}
use Rattle.sp_audit.proofs.whole.first_at.Goals as goal

pub returns-in_ok-order_first : goal.returns-in_ok-order_first
returns-in_ok-order_first c =
    let x = setting_of c.args.scenario.now in
    let es = c.args.events.now in
    let js = c.args.journal.now in
    subst (IsFirst (KeepsAt x es js c.args.a c.args.b) (length es))
    (sym (c.min-first-then-is_correct-2.ensures ∙ ap (λ (n : ℕ). min n c.in_ok-order_first.field-0) c.min-first.ensures))
    (first_of_both x es js c.args.a c.args.b (length es) c.in_ok-first.first c.in_ok-once_first.field-0 c.in_ok-order_first.field-0
    (sym c.is_correct.ensures ∙ c.if-is_correct.true) (sym c.is_correct-then-is_correct.ensures ∙ c.if-is_correct-2.true)
    c.in_ok-first.ensures c.in_ok-once_first.ensures c.in_ok-order_first.ensures)

pub returns-else-is_correct-2 : goal.returns-else-is_correct-2
returns-else-is_correct-2 c =
    let x = setting_of c.args.scenario.now in
    let es = c.args.events.now in
    let js = c.args.journal.now in
    subst (IsFirst (KeepsAt x es js c.args.a c.args.b) (length es)) (sym c.min-first.ensures)
    (first_of_one x es js c.args.a c.args.b (length es) c.in_ok-first.first c.in_ok-once_first.field-0
    (sym c.is_correct.ensures ∙ c.if-is_correct.true) (sym c.is_correct-then-is_correct.ensures ∙ c.if-is_correct-2.false)
    c.in_ok-first.ensures c.in_ok-once_first.ensures)
