use Rattle.std.proofs.Common.{◌≡◌, ◌∙◌, ap, sym, subst, true, false}
use Rattle.std.specs.List.{All}
use Rattle.sp_base.specs.declared.id.Flow.{Flow}
use Rattle.sp_rules.specs.Changes.{CanConclude}
use Rattle.sp_rules.specs.Flow.{IsStanding, flow_said}
use Rattle.sp_rules.specs.Rel.{RelState, flow_in}
use Rattle.sp_rules.proofs.FlowDue.{can_conclude}
use Rattle.sp_rel.specs.declared.place.Place.{Place}
use Rattle.sp_rel.proofs.table.RelTable.signed.Goals as goal

pub change-requires-clause-can : goal.change-requires-clause-can
change-requires-clause-can c =
    let standing = subst (λ (r : RelState). All (IsStanding r.me r.bound) r.flows) c.self.view_is c.recall.ensures in
    subst (λ (flow : Flow). CanConclude c.self.inside.flows.me (flow_in c.self.inside.flows.flows flow))
    (sym (ap (λ (p : Place). p.flow) c.place-place.ensures ∙ c.flow_said-flow.ensures))
    (subst (λ (r : RelState). CanConclude r.me (flow_in r.flows (flow_said c.args.ack.body))) (sym c.self.view_is)
    (can_conclude c.args.self.now c.args.ack.body c.requires.due c.requires.fields standing))

pub change-requires-clause-seat : goal.change-requires-clause-seat
change-requires-clause-seat c off =
    let standing = subst (λ (r : RelState). All (IsStanding r.me r.bound) r.flows) c.self.view_is c.recall.ensures in
    let can =
    subst (λ (flow : Flow). CanConclude c.self.inside.flows.me (flow_in c.self.inside.flows.flows flow))
    (sym (ap (λ (p : Place). p.flow) c.place-place.ensures ∙ c.flow_said-flow.ensures))
    (subst (λ (r : RelState). CanConclude r.me (flow_in r.flows (flow_said c.args.ack.body))) (sym c.self.view_is)
    (can_conclude c.args.self.now c.args.ack.body c.requires.due c.requires.fields standing)) in
    absurd (let e = can.active in let clash : true ≡ false = sym e ∙ off in cc)
