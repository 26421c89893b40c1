use Rattle.std.proofs.Common.{List, drop, sym, subst, suc, take}
use Rattle.std.specs.List.{flat_map}
use Rattle.sp_runs.specs.Told.{Message, delivered_by}
use Rattle.sp_audit.specs.Agreed.{Agrees, Differs}
use Rattle.sp_audit.proofs.Agreement.{agrees_more, differs_more}
use Rattle.sp_audit.proofs.Walks.{flat_more, flat_parts}
use Rattle.sp_audit.proofs.messages.agreed.Goals as goal

pub effects-preserved : goal.effects-preserved
effects-preserved c =
    let tells = delivered_by c.args.kind c.args.s in
    let effects = c.args.effects.now in
    let e = c.index-effects-place.result in
    subst (λ (xs : List Message). Agrees c.args.sent.now c.args.count xs c.in-Some.more)
    (sym (flat_more tells effects c.effects.place e c.effects-test.true c.index-effects-place.is))
    (agrees_more c.args.sent.now c.args.count c.effects.delivered c.in-Some.more (flat_map tells (take c.effects.place effects)) (tells e)
    c.effects.invariant c.in-Some.ensures.agrees)

pub returns-in-None-clause-differs : goal.returns-in-None-clause-differs
returns-in-None-clause-differs c =
    let tells = delivered_by c.args.kind c.args.s in
    let effects = c.args.effects.now in
    let e = c.index-effects-place.result in
    subst (Differs c.args.sent.now c.args.count) (sym (flat_parts tells effects c.effects.place e c.effects-test.true c.index-effects-place.is))
    (differs_more c.args.sent.now c.args.count c.effects.delivered (flat_map tells (take c.effects.place effects)) (tells e)
    (flat_map tells (drop (suc c.effects.place) effects)) c.effects.invariant c.in-None.ensures.differs)
