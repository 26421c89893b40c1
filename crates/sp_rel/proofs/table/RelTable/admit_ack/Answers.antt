use Rattle.std.proofs.Common.{sym, subst}
use Rattle.sp_base.specs.declared.id.Flow.{Flow}
use Rattle.sp_rules.specs.Changes.{CanAcknowledge}
use Rattle.sp_rel.specs.Rows.{IsSeated}
use Rattle.sp_rules.specs.Flow.{flow_said}
use Rattle.sp_rules.specs.Rel.{RelState, flow_in}
use Rattle.sp_rules.proofs.FlowJudged.{can_acknowledge}
use Rattle.sp_rel.proofs.OwnFlows.{ack_again, ack_flow}
use Rattle.sp_rel.proofs.TableLemmas.{seat_fits}
use Rattle.sp_rel.proofs.table.RelTable.admit_ack.Goals as goal

pub change-requires-clause-can : goal.change-requires-clause-can
change-requires-clause-can c =
    let r = c.args.self.now in
    let flow = c.args.place.flow in
    subst (λ (f : Flow). CanAcknowledge c.self.inside.flows.me (flow_in c.self.inside.flows.flows f) c.args.ack)
    (sym (ack_flow r flow c.args.ack.body c.requires.new))
    (subst (λ (s : RelState). CanAcknowledge s.me (flow_in s.flows (flow_said c.args.ack.body)) c.args.ack) (sym c.self.view_is)
    (can_acknowledge r c.args.ack (ack_again r flow c.args.ack.body c.requires.new) c.requires.fields))

pub change-requires-clause-seat : goal.change-requires-clause-seat
change-requires-clause-seat c =
    subst (λ (r : RelState). IsSeated r.me r.bound (flow_in r.flows c.args.place.flow) c.args.seat) (sym c.self.view_is)
    (seat_fits c.args.self.now c.args.place.flow c.args.seat c.requires.seat)
