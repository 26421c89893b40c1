use Rattle.std.proofs.Common.{◌∙◌, ap, sym, subst}
use Rattle.sp_base.specs.declared.id.Flow.{Flow}
use Rattle.sp_rules.specs.Changes.{CanPush}
use Rattle.sp_rel.specs.Rows.{IsSeated}
use Rattle.sp_rules.specs.Flow.{flow_said}
use Rattle.sp_rules.specs.Rel.{RelState, flow_in}
use Rattle.sp_rules.proofs.FlowJudged.{can_push_own}
use Rattle.sp_rel.specs.declared.place.Place.{Place}
use Rattle.sp_rel.proofs.TableLemmas.{seat_fits}
use Rattle.sp_rel.proofs.table.RelTable.push.Goals as goal

pub change-requires-clause-can : goal.change-requires-clause-can
change-requires-clause-can c =
    subst (λ (flow : Flow). CanPush c.self.inside.flows.me c.self.inside.flows.bound (flow_in c.self.inside.flows.flows flow) c.args.message)
    (sym (ap (λ (p : Place). p.flow) c.place-place.ensures ∙ c.flow_said.ensures))
    (subst (λ (r : RelState). CanPush r.me r.bound (flow_in r.flows (flow_said c.args.message.body)) c.args.message) (sym c.self.view_is)
    (can_push_own c.args.self.now c.args.message c.requires.next c.requires.fields))

pub change-requires-clause-seat : goal.change-requires-clause-seat
change-requires-clause-seat c =
    subst (λ (flow : Flow). IsSeated c.self.inside.flows.me c.self.inside.flows.bound (flow_in c.self.inside.flows.flows flow) c.args.seat)
    (sym (ap (λ (p : Place). p.flow) c.place-place.ensures ∙ c.flow_said.ensures))
    (subst (λ (r : RelState). IsSeated r.me r.bound (flow_in r.flows (flow_said c.args.message.body)) c.args.seat) (sym c.self.view_is)
    (seat_fits c.args.self.now (flow_said c.args.message.body) c.args.seat c.requires.seat))
