use Rattle.std.proofs.Common.{◌≡◌, ◌+◌, ℕ, suc, List, arith, length, drop, false, refl, sym, ap, subst, ◌∙◌}
use Rattle.sp_schedule_events.specs.declared.event.Event.{Event}
use Rattle.sp_audit.specs.Ends.{HasSweep, IsFirstEnd, sweep_end}
use Rattle.sp_audit.proofs.SweepLemmas.{drop_at_item, drop_past, sweep_first}
use Rattle.sp_audit.proofs.sweeps.sweep_end.Goals as goal

pub returns-then-step : goal.returns-then-step
returns-then-step c = λ before is.
    let walk : List Event → ℕ = λ es. c.events.place + sweep_end c.args.least c.args.u c.args.v c.events.walk.made c.events.walk.good c.events.walk.waits es in
    subst (IsFirstEnd (HasSweep c.args.least c.args.u c.args.v before) c.args.during.now)
    (ap (λ (n : ℕ). sweep_end c.args.least c.args.u c.args.v n 0 false c.args.during.now) (sym is) ∙ c.events.invariant.walked
    ∙ ap walk (drop_at_item c.args.during.now c.events.place c.index-during-place.result c.events-test.true c.index-during-place.is)
    ∙ ap (λ (n : ℕ). c.events.place + n) (c.step.ensures.walked (drop (suc c.events.place) c.args.during.now) ∙ rw c.if-step.true refl))
    (sweep_first c.args.least c.args.u c.args.v before c.args.during.now c.requires.some)

pub returns : goal.returns
returns c = λ before is.
    let walk : List Event → ℕ = λ es. c.events.place + sweep_end c.args.least c.args.u c.args.v c.events.walk.made c.events.walk.good c.events.walk.waits es in
    let at : c.events.place ≡ length c.args.during.now = omega (arith, c.events.auto.place-end, c.events-test.false) in
    subst (IsFirstEnd (HasSweep c.args.least c.args.u c.args.v before) c.args.during.now)
    (ap (λ (n : ℕ). sweep_end c.args.least c.args.u c.args.v n 0 false c.args.during.now) (sym is) ∙ c.events.invariant.walked
    ∙ ap walk (drop_past c.args.during.now c.events.place (omega (arith, at))) ∙ ap (λ (n : ℕ). n + 1) at)
    (sweep_first c.args.least c.args.u c.args.v before c.args.during.now c.requires.some)
