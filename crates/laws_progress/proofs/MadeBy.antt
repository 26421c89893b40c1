-- What the slot of a flow in a frame tells, against the node that makes it.
use Rattle.laws_progress.proofs.Hops.{Told}
use Rattle.laws_progress.proofs.States.{Era}
use Rattle.laws_runs.specs.Past.{holds}
use Rattle.std.proofs.Common.{◌≡◌, ◌≤◌, ◌⊎◌, ℕ, ◌+◌, Bool, true, false, max, List, Option, Some, None, option_map}
use Rattle.std.proofs.Common.{refl, sym, ap, subst, ◌∙◌, inl, inr, arith, cond}
use Rattle.std.specs.Prelude.{◌&&◌}
use Rattle.std.proofs.lemmas.Bool.{ne_eqb}
use Rattle.sp_base.specs.Formats.{max_rels}
use Rattle.sp_base.specs.declared.id.Flow.{Flow}
use Rattle.sp_base.specs.declared.id.NodeId.{NodeId}
use Rattle.sp_frame.specs.Reliable.{Report}
use Rattle.sp_rules.specs.Node.{NodeState}
use Rattle.sp_rules.specs.Polls.{contents_to, dated}
use Rattle.sp_rules.specs.Rel.{flow_in, next_flow, next_place, pairs_of, peer_in, slot_for, slot_of, view_in}
use Rattle.laws_node.specs.Flows.{RelHolds}
use Rattle.laws_node.specs.Sizes.{Sizes}
use Rattle.laws_runs.proofs.Tables.{same_node}
use Rattle.laws_runs.proofs.Acks.{RelAck}
use Rattle.laws_progress.proofs.Standing.{place_in, same_flow}
use Rattle.laws_progress.proofs.Wires.{is_mine, number_in, told_slot, is_slot}
use Rattle.laws_progress.proofs.Makes.{SlotMade, number_taken, one_fits, slot_made, turn_flow}
use Rattle.sp_rules.specs.Parts.{flows_of}
use Rattle.laws_progress.proofs.EitherKind.{slot_of_kind}
use Rattle.laws_progress.proofs.Makes.{Passes, sent_over, over_list, slot_now, lacks, lacks_none, turn_has}
use Rattle.sp_rules.specs.Kflow.{edge_to}
use Rattle.laws_node.specs.Flows.{HasFlows}
use Rattle.sp_rules.specs.Rel.{RelState}
use Rattle.std.proofs.Common.{min}

-- ---- what a frame tells when it is made

-- against the node that makes it
pub record MadeBy (era : Era) (flow : Flow) (place : ℕ) (n : NodeState) (u v : NodeId) (served echo : Bool) (f : Told) : Type 0 where
  pub held : f.mine ≡ true → holds n flow.src era.sboot flow.dst era.dboot ≡ true
  pub mine : served ≡ true → echo ≡ true → holds n flow.src era.sboot flow.dst era.dboot ≡ true → next_place (flows_of era.kind n.parts) v ≡ Some place
      → f.mine ≡ true
  pub base : f.mine ≡ true → f.base ≡ (flow_in (flows_of era.kind n.parts).flows flow).at.base
  pub have : f.mine ≡ true → f.have ≡ (flow_in (flows_of era.kind n.parts).flows flow).at.have
  pub no_ack : f.mine ≡ true → f.ack ≡ false
      → (flow_in (flows_of era.kind n.parts).flows flow).at.base ≤ (view_in (peer_in (flows_of era.kind n.parts).peers v).views flow).base
  pub next_there : f.mine ≡ true → f.next ≤ (flow_in (flows_of era.kind n.parts).flows flow).at.have
  pub next_near : f.mine ≡ true
      → f.next ≤ max (view_in (peer_in (flows_of era.kind n.parts).peers v).views flow).have (flow_in (flows_of era.kind n.parts).flows flow).at.base + 1
  pub next_is : f.mine ≡ true → (u ≡ flow.dst → ⊥) → era.low ≤ (flow_in (flows_of era.kind n.parts).flows flow).at.base
      → Passes era.low era.high (edge_to n.parts.kflow v) (flow_in (flows_of era.kind n.parts).flows flow)
      → (min era.high (flow_in (flows_of era.kind n.parts).flows flow).at.have ≤ max (view_in (peer_in (flows_of era.kind n.parts).peers v).views flow).have
      (flow_in (flows_of era.kind n.parts).flows flow).at.base)
      ⊎ (f.next ≡ max (view_in (peer_in (flows_of era.kind n.parts).peers v).views flow).have (flow_in (flows_of era.kind n.parts).flows flow).at.base + 1)

pub two_true : (a b : Bool) → (a && b) ≡ true → (a ≡ true) × (b ≡ true)
two_true true true e = (refl, refl)
two_true true false e = absurd (let f : false ≡ true = e in cc)
two_true false b e = absurd (let f : false ≡ true = e in cc)

-- where the edge is open and no document goes first
pub made_by : (era : Era) (k : Sizes) (index : ℕ) (flow : Flow) (nodes : List NodeId) (n : NodeState) (u v : NodeId) (served echo : Bool) → k.me ≡ u
    → k.nodes ≡ nodes → k.format ≡ n.fixed.topology.format
    → RelHolds era.kind k index (flows_of era.kind n.parts) → RelAck (flows_of era.kind n.parts)
    → MadeBy era flow (place_in (pairs_of nodes) flow) n u v served echo (told_slot era flow echo (slot_of_kind era.kind (contents_to n.fixed n.parts v)))
made_by era k index flow nodes n u v served echo me same sized h acks =
    subst (λ (o : Option Report). MadeBy era flow (place_in (pairs_of nodes) flow) n u v served echo (told_slot era flow echo o))
    (sym (slot_now era.kind n.fixed n.parts v)) (of_format (lacks era.kind n.fixed.topology.format) refl)
  where
    r : RelState
    r = flows_of era.kind n.parts

    edge : ℕ
    edge = edge_to n.parts.kflow v

    format : ℕ
    format = n.fixed.topology.format

    none : (next_place r v ≡ Some (place_in (pairs_of nodes) flow) → ⊥)
        → MadeBy era flow (place_in (pairs_of nodes) flow) n u v served echo (told_slot era flow echo None)
    none never = record {
      held = λ z. absurd (let f : false ≡ true = z in cc);
      mine = λ carried knows held turn. absurd (never turn);
      base = λ z. absurd (let f : false ≡ true = z in cc);
      have = λ z. absurd (let f : false ≡ true = z in cc);
      no_ack = λ z. absurd (let f : false ≡ true = z in cc);
      next_there = λ z. absurd (let f : false ≡ true = z in cc);
      next_near = λ z. absurd (let f : false ≡ true = z in cc);
      next_is = λ z. absurd (let f : false ≡ true = z in cc);
    }

    of_flow : (o : Option Flow) → next_flow r v ≡ o → MadeBy era flow (place_in (pairs_of nodes) flow) n u v served echo
        (told_slot era flow echo (option_map (dated format n.parts.lives) (option_map (sent_over era.kind edge) (option_map (slot_of r v) o))))
    of_flow None e = none (λ turn.
        let t = turn_flow r v flow nodes (h.keys ∙ ap pairs_of same) turn in
        let f : None ≡ Some t.0 = sym e ∙ t.1 in cc)
    of_flow (Some fl) e =
        let t = dated format n.parts.lives (sent_over era.kind edge (slot_of r v fl)) in
        let its : (echo && is_slot era flow t) ≡ true → fl ≡ flow = λ z. same_flow flow fl (two_true _ _ (two_true _ _ z).1).0 in
        let of_mine : (echo && is_slot era flow t) ≡ true → SlotMade era.kind flow edge era.low era.high r v (sent_over era.kind edge (slot_of r v fl)) =
        λ z. subst (λ g. SlotMade era.kind flow edge era.low era.high r v (sent_over era.kind edge (slot_of r v g))) (sym (its z))
        (slot_made era.kind edge era.low era.high k index r v flow h acks) in
        let number : number_in t.rels ≡ number_in (over_list era.kind edge (slot_of r v fl).rels) =
        number_taken (max_rels format) (over_list era.kind edge (slot_of r v fl).rels) (one_fits format) in
        record {
          held = λ z.
              let boots = (two_true _ _ (two_true _ _ z).1).1 in
              subst (λ (g : Flow). holds n g.src era.sboot g.dst era.dboot ≡ true) (its z) boots;
          mine = λ carried knows held turn.
              let t2 = turn_flow r v flow nodes (h.keys ∙ ap pairs_of same) turn in
              let f : Some fl ≡ Some t2.0 = sym e ∙ t2.1 in
              let g : t2.0 ≡ fl = cc in
              let own : is_mine flow fl ≡ true = subst (λ z. is_mine flow z ≡ true) g t2.2 in
              let is : fl ≡ flow = same_flow flow fl own in
              let boots : holds n fl.src era.sboot fl.dst era.dboot ≡ true =
              subst (λ (z : Flow). holds n z.src era.sboot z.dst era.dboot ≡ true) (sym is) held in
              rw (knows, own) boots;
          base = λ z. (of_mine z).base;
          have = λ z. (of_mine z).have;
          no_ack = λ z. (of_mine z).no_ack;
          next_there = λ z. let top = (of_mine z).next_there in omega (arith, top, number);
          next_near = λ z. let top = (of_mine z).next_near in omega (arith, top, number);
          next_is = λ z away ready passes.
              elim ((of_mine z).next_is (ne_eqb _ _ (λ q. away (same_node u flow.dst (sym (ap (λ (w : NodeId). w.0) (h.me ∙ me)) ∙ q)))) ready passes) [
                | inl low ↦ inl low
                | inr is ↦ inr (number ∙ is)
              ];
        }

    of_format : (t : Bool) → lacks era.kind format ≡ t → MadeBy era flow (place_in (pairs_of nodes) flow) n u v served echo
        (told_slot era flow echo (cond t None (option_map (dated format n.parts.lives) (option_map (sent_over era.kind edge) (slot_for r v)))))
    of_format false e = of_flow (next_flow r v) refl
    of_format true e = none (λ turn. lacks_none era.kind format e
        (subst (HasFlows era.kind) sized (turn_has era.kind k index r v (place_in (pairs_of nodes) flow) h turn)))

-- without a slot
pub none_by : (era : Era) (flow : Flow) (place : ℕ) (n : NodeState) (u v : NodeId) (served echo : Bool) → served ≡ false
    → MadeBy era flow place n u v served echo (told_slot era flow echo None)
none_by era flow place n u v served echo off = record {
  held = λ z. absurd (let f : false ≡ true = z in cc);
  mine = λ carried knows held turn. absurd (let f : true ≡ false = sym carried ∙ off in cc);
  base = λ z. absurd (let f : false ≡ true = z in cc);
  have = λ z. absurd (let f : false ≡ true = z in cc);
  no_ack = λ z. absurd (let f : false ≡ true = z in cc);
  next_there = λ z. absurd (let f : false ≡ true = z in cc);
  next_near = λ z. absurd (let f : false ≡ true = z in cc);
  next_is = λ z. absurd (let f : false ≡ true = z in cc);
}
