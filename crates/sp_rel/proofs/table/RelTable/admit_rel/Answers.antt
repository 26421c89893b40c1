use Rattle.std.proofs.Common.{◌≡◌, ℕ, Bool, List, [], ◌∷◌, cond, ap, arith, sym, subst, ◌∙◌, true, false}
use Rattle.std.proofs.lemmas.Bool.Decides.{nat_tests}
use Rattle.sp_base.specs.declared.id.Flow.{Flow}
use Rattle.sp_rules.specs.Changes.{CanPush, CanReceive}
use Rattle.sp_rel.specs.Rows.{IsSeated}
use Rattle.sp_msg.specs.Bodies.{payload_of}
use Rattle.sp_msg.specs.declared.effect.Effect.{Effect}
use Rattle.sp_msg.specs.declared.kept.Kept.{Kept}
use Rattle.sp_rel.specs.Tables.{FlowsState}
use Rattle.sp_rules.specs.Flow.{flow_said, pushed, received}
use Rattle.sp_rules.specs.Rel.{RelState, admit_rel, delivery, flow_in, is_to, with_flow}
use Rattle.sp_rules.specs.Told.{told}
use Rattle.sp_rules.proofs.ToldLemmas.{told_none}
use Rattle.sp_rules.proofs.FlowJudged.{can_push, can_receive}
use Rattle.sp_rel.proofs.OwnFlows.{rel_again, rel_flow}
use Rattle.sp_rel.proofs.TableLemmas.{seat_fits}
use Rattle.sp_rel.proofs.table.RelTable.admit_rel.Goals as goal

pub change-requires-clause-can : goal.change-requires-clause-can
change-requires-clause-can c =
    let r = c.args.self.now in
    let flow = c.args.place.flow in
    let body = c.args.message.body in
    let own = rel_flow r flow body c.requires.new in
    let here : is_to r (flow_said body) ≡ true =
    grind (
      arith,
      nat_tests,
      c.if-me-place.true,
      ap (λ u. u.0) c.me.ensures,
      ap (λ (f : Flow). f.dst.0) own,
      ap (λ (s : RelState). s.me.0) c.self.view_is,
    ) in
    subst (λ (f : Flow). CanReceive c.self.inside.flows.me c.self.inside.flows.bound (flow_in c.self.inside.flows.flows f)) (sym own)
    (subst (λ (s : RelState). CanReceive s.me s.bound (flow_in s.flows (flow_said body))) (sym c.self.view_is)
    (can_receive r body (rel_again r flow body c.requires.new) c.requires.fields here))

pub change-requires-clause-seat : goal.change-requires-clause-seat
change-requires-clause-seat c =
    subst (λ (r : RelState). IsSeated r.me r.bound (flow_in r.flows c.args.place.flow) c.args.seat) (sym c.self.view_is)
    (seat_fits c.args.self.now c.args.place.flow c.args.seat c.requires.seat)

pub change-requires-else-me-place-clause-can : goal.change-requires-else-me-place-clause-can
change-requires-else-me-place-clause-can c =
    let r = c.args.self.now in
    let flow = c.args.place.flow in
    let body = c.args.message.body in
    let own = rel_flow r flow body c.requires.new in
    let elsewhere : is_to r (flow_said body) ≡ false =
    grind (
      arith,
      nat_tests,
      c.if-me-place.false,
      ap (λ u. u.0) c.me.ensures,
      ap (λ (f : Flow). f.dst.0) own,
      ap (λ (s : RelState). s.me.0) c.self.view_is,
    ) in
    subst (λ (f : Flow). CanPush c.self.inside.flows.me c.self.inside.flows.bound (flow_in c.self.inside.flows.flows f) c.args.message) (sym own)
    (subst (λ (s : RelState). CanPush s.me s.bound (flow_in s.flows (flow_said body)) c.args.message) (sym c.self.view_is)
    (can_push r c.args.message (rel_again r flow body c.requires.new) c.requires.fields elsewhere))

pub change-requires-else-me-place-clause-seat : goal.change-requires-else-me-place-clause-seat
change-requires-else-me-place-clause-seat c =
    subst (λ (r : RelState). IsSeated r.me r.bound (flow_in r.flows c.args.place.flow) c.args.seat) (sym c.self.view_is)
    (seat_fits c.args.self.now c.args.place.flow c.args.seat c.requires.seat)

-- the table with the changed flow, as the rules say it
changed_is : (r : RelState) (flow : Flow) (message : Kept) (payload : List ℕ) (to : Bool) → flow ≡ flow_said message.body → payload ≡ payload_of message.body
    → is_to r (flow_said message.body) ≡ to
    → with_flow r flow (cond to (received (flow_in r.flows flow) payload) (pushed (flow_in r.flows flow) message)) ≡ admit_rel r message
changed_is r flow message payload to own same is =
    ap (λ (f : Flow). with_flow r f (cond to (received (flow_in r.flows f) payload) (pushed (flow_in r.flows f) message))) own
    ∙ ap (λ (p : List ℕ). with_flow r (flow_said message.body)
    (cond to (received (flow_in r.flows (flow_said message.body)) p) (pushed (flow_in r.flows (flow_said message.body)) message))) same
    ∙ ap (λ (t : Bool). with_flow r (flow_said message.body)
    (cond t (received (flow_in r.flows (flow_said message.body)) (payload_of message.body)) (pushed (flow_in r.flows (flow_said message.body)) message)))
    (sym is)

pub returns-then-me-place-clause-table : goal.returns-then-me-place-clause-table
returns-then-me-place-clause-table c =
    let r = c.args.self.now in
    let inside = c.self.inside in
    let flow = c.args.place.flow in
    let body = c.args.message.body in
    let own = rel_flow r flow body c.requires.new in
    let here : is_to r (flow_said body) ≡ true =
    grind (
      arith,
      nat_tests,
      c.if-me-place.true,
      ap (λ u. u.0) c.me.ensures,
      ap (λ (f : Flow). f.dst.0) own,
      ap (λ (s : RelState). s.me.0) c.self.view_is,
    ) in
    ap (λ (t : FlowsState). let now : RelState = record {
      me = t.me;
      nodes = inside.nodes.items;
      removed = inside.removed.items;
      bound = t.bound;
      flows = t.flows;
      peers = inside.peers;
      signed = inside.signed;
    } in now) c.change.ensures.changed
    ∙ ap (λ (s : RelState). with_flow s flow (received (flow_in s.flows flow) c.args.payload)) c.self.view_is
    ∙ changed_is r flow c.args.message c.args.payload true own c.requires.payload here

pub returns-else-me-place-clause-table : goal.returns-else-me-place-clause-table
returns-else-me-place-clause-table c =
    let r = c.args.self.now in
    let inside = c.self.inside in
    let flow = c.args.place.flow in
    let body = c.args.message.body in
    let own = rel_flow r flow body c.requires.new in
    let elsewhere : is_to r (flow_said body) ≡ false =
    grind (
      arith,
      nat_tests,
      c.if-me-place.false,
      ap (λ u. u.0) c.me.ensures,
      ap (λ (f : Flow). f.dst.0) own,
      ap (λ (s : RelState). s.me.0) c.self.view_is,
    ) in
    ap (λ (t : FlowsState). let now : RelState = record {
      me = t.me;
      nodes = inside.nodes.items;
      removed = inside.removed.items;
      bound = t.bound;
      flows = t.flows;
      peers = inside.peers;
      signed = inside.signed;
    } in now) c.change-else-me-place.ensures.changed
    ∙ ap (λ (s : RelState). with_flow s flow (pushed (flow_in s.flows flow) c.args.message)) c.self.view_is
    ∙ changed_is r flow c.args.message c.args.payload false own c.requires.payload elsewhere

pub returns-then-me-place-clause-effects : goal.returns-then-me-place-clause-effects
returns-then-me-place-clause-effects c =
    let body = c.args.message.body in
    let own = rel_flow c.args.self.now c.args.place.flow body c.requires.new in
    let here : is_to c.args.self.now (flow_said body) ≡ true =
    grind (
      arith,
      nat_tests,
      c.if-me-place.true,
      ap (λ u. u.0) c.me.ensures,
      ap (λ (f : Flow). f.dst.0) own,
      ap (λ (s : RelState). s.me.0) c.self.view_is,
    ) in
    c.push.ensures ∙ ap (λ (e : Effect). told c.args.out.now (e ∷ [])) c.delivery.ensures
    ∙ ap (λ (t : Bool). told c.args.out.now (cond t (delivery body ∷ []) [])) (sym here)

pub returns-else-me-place-clause-effects : goal.returns-else-me-place-clause-effects
returns-else-me-place-clause-effects c =
    let body = c.args.message.body in
    let own = rel_flow c.args.self.now c.args.place.flow body c.requires.new in
    let elsewhere : is_to c.args.self.now (flow_said body) ≡ false =
    grind (
      arith,
      nat_tests,
      c.if-me-place.false,
      ap (λ u. u.0) c.me.ensures,
      ap (λ (f : Flow). f.dst.0) own,
      ap (λ (s : RelState). s.me.0) c.self.view_is,
    ) in
    sym (told_none c.args.out.now) ∙ ap (λ (t : Bool). told c.args.out.now (cond t (delivery body ∷ []) [])) (sym elsewhere)
