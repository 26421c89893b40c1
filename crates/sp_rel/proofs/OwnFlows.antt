-- What is new in a slot is of the slot's own flow.
use Rattle.std.proofs.Common.{◌≡◌, subst}
use Rattle.sp_base.specs.declared.id.Flow.{Flow}
use Rattle.sp_msg.specs.declared.body.Body.{Body}
use Rattle.sp_msg.specs.declared.body.Body.TheVariants as bodies
use Rattle.sp_rules.proofs.FlowJudged.{new_ack, new_rel, same_flow}
use Rattle.sp_rules.specs.Flow.{flow_said}
use Rattle.sp_rules.specs.Rel.{RelState, judge_ack_of, judge_rel_of, plain_ack}
use Rattle.sp_rules.specs.declared.rel.AckJudged.TheVariants as acks
use Rattle.sp_rules.specs.declared.rel.RelJudged.TheVariants as rels

pub ack_flow : (r : RelState) (flow : Flow) (body : Body) → judge_ack_of r flow body ≡ acks.New → flow ≡ flow_said body
ack_flow r flow (bodies.Ack a) new = same_flow r flow a.src a.dst (new_ack r flow a new).ends
ack_flow r flow (bodies.Prio m) new = absurd (cc)
ack_flow r flow (bodies.Rel m) new = absurd (cc)
ack_flow r flow (bodies.Weight m) new = absurd (cc)
ack_flow r flow (bodies.Krel m) new = absurd (cc)
ack_flow r flow (bodies.Kack a) new = same_flow r flow a.src a.dst (new_ack r flow (plain_ack a) new).ends
ack_flow r flow (bodies.Epoch m) new = absurd (cc)

pub ack_again : (r : RelState) (flow : Flow) (body : Body) → judge_ack_of r flow body ≡ acks.New → judge_ack_of r (flow_said body) body ≡ acks.New
ack_again r flow body new = subst (λ (f : Flow). judge_ack_of r f body ≡ acks.New) (ack_flow r flow body new) new

pub rel_flow : (r : RelState) (flow : Flow) (body : Body) → judge_rel_of r flow body ≡ rels.New → flow ≡ flow_said body
rel_flow r flow (bodies.Rel m) new = same_flow r flow m.src m.dst (new_rel r flow m.src m.dst m.seq new).ends
rel_flow r flow (bodies.Prio m) new = absurd (cc)
rel_flow r flow (bodies.Ack m) new = absurd (cc)
rel_flow r flow (bodies.Weight m) new = absurd (cc)
rel_flow r flow (bodies.Krel m) new = same_flow r flow m.src m.dst (new_rel r flow m.src m.dst m.seq new).ends
rel_flow r flow (bodies.Kack m) new = absurd (cc)
rel_flow r flow (bodies.Epoch m) new = absurd (cc)

pub rel_again : (r : RelState) (flow : Flow) (body : Body) → judge_rel_of r flow body ≡ rels.New → judge_rel_of r (flow_said body) body ≡ rels.New
rel_again r flow body new = subst (λ (f : Flow). judge_rel_of r f body ≡ rels.New) (rel_flow r flow body new) new
