use Rattle.std.proofs.Common.{◌≡◌, List, false, arith, sym, subst, ◌∙◌}
use Rattle.std.specs.List.{list_any}
use Rattle.sp_rules.specs.declared.kflow.FlowKind.TheVariants.{Plain}
use Rattle.sp_runs.specs.Rounds.{is_take}
use Rattle.sp_schedule_events.specs.declared.event.Event.{Event}
use Rattle.sp_audit.proofs.Hops.{first_found, never_found}
use Rattle.sp_audit.proofs.Walks.{take_all}
use Rattle.sp_audit.proofs.sweeps.take_end.Goals as goal

pub returns-then-is_take : goal.returns-then-is_take
returns-then-is_take c =
    first_found (is_take Plain c.args.flow.dst c.args.flow.src) c.args.during.now c.events.place c.index-during-place.result c.events-test.true
    c.index-during-place.is c.events.invariant
    (sym c.is_take.ensures ∙ c.if-is_take.true)

pub returns : goal.returns
returns c =
    never_found (is_take Plain c.args.flow.dst c.args.flow.src) c.args.during.now
    (subst (λ (es : List Event). list_any (is_take Plain c.args.flow.dst c.args.flow.src) es ≡ false)
    (take_all c.args.during.now c.events.place (omega (arith, c.events-test.false))) c.events.invariant)
