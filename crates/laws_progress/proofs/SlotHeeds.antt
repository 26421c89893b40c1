-- A whole slot of the flow from a correct node: what it leaves of the flow, and of the view of that node.
use Rattle.laws_runs.proofs.Lists.{both}
use Rattle.laws_progress.proofs.States.{Era}
use Rattle.std.proofs.Common.{◌≡◌, ◌≤◌, ◌⊎◌, ℕ, ◌+◌, ◌-◌, ◌==◌, ◌&&◌, ◌||◌, Bool, true, false, cond, min, max, List, [], ◌∷◌, length, map, Option, Some, None}
use Rattle.std.proofs.Common.{refl, sym, ap, subst, ◌∙◌, inl, inr, arith, eqb-true}
use Rattle.std.specs.List.{list_any}
use Rattle.std.proofs.lemmas.Bool.{cases_Bool, eq-eqb}
use Rattle.sp_base.specs.Rows.{replace_where}
use Rattle.sp_base.specs.declared.id.Flow.{Flow}
use Rattle.sp_base.specs.declared.id.NodeId.{NodeId}
use Rattle.sp_frame.specs.Reliable.{Report}
use Rattle.sp_msg.specs.declared.body.Body.{Body}
use Rattle.sp_msg.specs.declared.kept.Kept.{Kept}
use Rattle.sp_rules.proofs.FlowJudged.{found_ends, same_ends}
use Rattle.sp_rules.specs.Answers.{ack_answer, is_new, rel_answer}
use Rattle.sp_rules.specs.Arts.{Arts}
use Rattle.sp_rules.specs.Flow.{FlowState, acknowledged_by, ends, flow_said, is_flow}
use Rattle.sp_rules.specs.Lives.{are_held, is_dated, held_boot}
use Rattle.sp_rules.specs.Handle.{Arrival}
use Rattle.sp_rules.specs.Parts.{Fixed, Parts, empty_parts, is_signed}
use Rattle.sp_rules.specs.Pieces.{AckPiece}
use Rattle.sp_rules.specs.Rel.{RelPeer, RelState, View, admit_ack, admit_rel, flow_in, is_from, is_over, is_peer, is_to, is_view, judge_ack_of}
use Rattle.sp_rules.specs.Rel.{judge_rel_of, new_peer, no_view, pairs_of, peer_in, reported, told, view_in, with_peer}
use Rattle.sp_rules.specs.declared.answers.Item.TheVariants as items
use Rattle.sp_rules.specs.declared.lives.Life.{Life}
use Rattle.sp_rules.specs.declared.kflow.FlowKind.TheVariants.{Plain, Paths}
use Rattle.laws_node.proofs.Tables.{cond_either}
use Rattle.laws_runs.proofs.FlowFacts.{first_replaced, other_replaced, still_there}
use Rattle.laws_progress.proofs.Hops.{Told}
use Rattle.laws_runs.proofs.Acks.{RelAck, acks_of, bare_acks, flow_ack, pieces_ack}
use Rattle.laws_progress.proofs.Heads.{first_there}
use Rattle.laws_progress.proofs.Heeded.{AreNodes, Ready, ack_heard, ack_later, rel_heard, rel_later}
use Rattle.laws_progress.proofs.Keys.{peer_is}
use Rattle.laws_progress.proofs.Standing.{same_flow}
use Rattle.laws_progress.proofs.Makes.{SlotAck, No_ack, Has_ack, SlotRel, No_rel, Has_rel, said}
use Rattle.laws_progress.proofs.Rises.{RelLater, rel_same, rel_then}
use Rattle.laws_progress.proofs.Slots.{after_ack, after_acks, after_rel, after_rels, after_report, after_slot}
use Rattle.laws_node.specs.Shapes.{view_ends}
use Rattle.laws_progress.proofs.Views.{RelRows, ViewsAre}
use Rattle.laws_progress.proofs.Wires.{has_ack, is_mine, number_in, told_slot, is_slot}
use Rattle.sp_rules.specs.declared.kflow.FlowKind.{FlowKind}
use Rattle.laws_progress.proofs.Slots.{either_flows}
use Rattle.sp_rules.specs.Kflow.{goes_over}

-- ---- what stays ready

ready_reported : (nodes : List NodeId) (bound : ℕ) (v : NodeId) (flow : Flow) (r : RelState) (u : NodeId) (fl : Flow) (base have : ℕ)
    → Ready nodes bound v flow r → Ready nodes bound v flow (reported r u fl base have)
ready_reported nodes bound v flow r u fl base have h =
    cond_either (Ready nodes bound v flow) (flow_in r.flows fl).active (with_peer r u (told (peer_in r.peers u) fl base have)) r
    (record { me = h.me; nodes_are = h.nodes_are; bound_is = h.bound_is; row = h.row; acks = h.acks; goes_on = h.goes_on }) h

reported_flows : (r : RelState) (u : NodeId) (fl : Flow) (base have : ℕ) → (reported r u fl base have).flows ≡ r.flows
reported_flows r u fl base have =
    cond_either (λ (z : RelState). z.flows ≡ r.flows) (flow_in r.flows fl).active (with_peer r u (told (peer_in r.peers u) fl base have)) r refl refl

-- the same where it is dropped
ready_report : (ls : List Life) (nodes : List NodeId) (bound : ℕ) (v : NodeId) (flow : Flow) (r : RelState) (u : NodeId) (t : Report)
    → Ready nodes bound v flow r
    → Ready nodes bound v flow (after_report ls r u t)
ready_report ls nodes bound v flow r u t h =
    cond_either (Ready nodes bound v flow) (are_held ls t.flow t.sboot t.dboot) (reported r u t.flow t.base t.have) r
    (ready_reported nodes bound v flow r u t.flow t.base t.have h) h

report_flows : (ls : List Life) (r : RelState) (u : NodeId) (t : Report) → (after_report ls r u t).flows ≡ r.flows
report_flows ls r u t =
    cond_either (λ (z : RelState). z.flows ≡ r.flows) (are_held ls t.flow t.sboot t.dboot) (reported r u t.flow t.base t.have) r
    (reported_flows r u t.flow t.base t.have) refl

admit_row : (r : RelState) (flow : Flow) (o : Kept) → list_any (is_flow flow) r.flows ≡ true → list_any (is_flow flow) (admit_ack r o).flows ≡ true
admit_row r flow o row =
    let fl = flow_said o.body in
    let g = acknowledged_by (flow_in r.flows fl) o in
    still_there (is_flow fl) (is_flow flow) g r.flows
    (λ f a b.
    let same : ends g ≡ ends f = found_ends r.flows fl ∙ sym (same_ends f fl a) in
    ap (λ (z : Flow). (z.src.0 == flow.src.0) && (z.dst.0 == flow.dst.0)) same ∙ b) row

-- what holds of all acknowledgements still does
kept_acks : (arts : Arts) (fx : Fixed) (ls : List Life) (v : NodeId) (r : RelState) (flow : Flow) (o : Kept) → RelAck r
    → RelAck (after_ack arts fx ls r flow o)
kept_acks arts fx ls v r flow o h =
    let p : Parts = record (empty_parts fx 0 0) { rel = r; lives = ls } in
    let at : Arrival = record { fixed = fx; now = 0; from = v } in
    subst RelAck (either_flows Plain (is_new (items.Ack (ack_answer (is_signed arts fx o) (is_dated ls o.body) (judge_ack_of r flow o.body)))) p
    (admit_ack r o))
    (pieces_ack arts at p (AckPiece Plain flow o ∷ []) (acks_of p h (bare_acks fx 0 0 Paths)) Plain)

ready_ack : (arts : Arts) (fx : Fixed) (ls : List Life) (nodes : List NodeId) (bound : ℕ) (v : NodeId) (flow : Flow) (r : RelState) (o : Kept)
    → Ready nodes bound v flow r → Ready nodes bound v flow (after_ack arts fx ls r flow o)
ready_ack arts fx ls nodes bound v flow r o h =
    let t = is_new (items.Ack (ack_answer (is_signed arts fx o) (is_dated ls o.body) (judge_ack_of r flow o.body))) in
    record {
      me = cond_either (λ (z : RelState). z.me ≡ v) t (admit_ack r o) r h.me h.me;
      nodes_are = cond_either (λ (z : RelState). z.nodes ≡ nodes) t (admit_ack r o) r h.nodes_are h.nodes_are;
      bound_is = cond_either (λ (z : RelState). z.bound ≡ bound) t (admit_ack r o) r h.bound_is h.bound_is;
      row = cond_either (λ (z : RelState). list_any (is_flow flow) z.flows ≡ true) t (admit_ack r o) r (admit_row r flow o h.row) h.row;
      acks = kept_acks arts fx ls v r flow o h.acks;
      goes_on = cond_either (λ (z : RelState). is_over z.removed flow ≡ false) t (admit_ack r o) r h.goes_on h.goes_on;
    }

ready_acks : (arts : Arts) (fx : Fixed) (ls : List Life) (nodes : List NodeId) (bound : ℕ) (v : NodeId) (flow : Flow) (r : RelState) (o : Option Kept)
    → Ready nodes bound v flow r → Ready nodes bound v flow (after_acks arts fx ls r flow o)
ready_acks arts fx ls nodes bound v flow r None h = h
ready_acks arts fx ls nodes bound v flow r (Some o) h = ready_ack arts fx ls nodes bound v flow r o h

acks_later : (arts : Arts) (fx : Fixed) (ls : List Life) (r : RelState) (flow : Flow) (o : Option Kept) → RelLater r (after_acks arts fx ls r flow o)
acks_later arts fx ls r flow None = rel_same r
acks_later arts fx ls r flow (Some o) = ack_later arts fx ls r flow o

rels_later : (arts : Arts) (fx : Fixed) (ls : List Life) (over : Body → Bool) (r : RelState) (flow : Flow) (os : List Kept)
    → RelLater r (after_rels arts fx ls over r flow os)
rels_later arts fx ls over r flow [] = rel_same r
rels_later arts fx ls over r flow (o ∷ os) =
    let first = after_rel arts fx ls over r flow o in
    rel_then r first (after_rels arts fx ls over first flow os) (rel_later arts fx ls over r flow o) (rels_later arts fx ls over first flow os)

-- ---- the flow after it

pub record SlotFits (kind : FlowKind) (edge : ℕ) (arts : Arts) (fx : Fixed) (ls : List Life) (over : Body → Bool) (flow : Flow) (bound : ℕ) (r : RelState)
    (t : Report) : Type 0 where
  pub flow_is : t.flow ≡ flow
  pub ack : SlotAck kind flow t.base t.ack
  pub rels : SlotRel kind flow edge t.rels
  -- what goes over the edge comes over it
  pub comes : (m : Body) → goes_over edge m ≡ true → over m ≡ true
  pub signed_ack : (o : Kept) → t.ack ≡ Some o → is_signed arts fx o ≡ true
  pub signed_rel : (o : Kept) (os : List Kept) → t.rels ≡ o ∷ os → is_signed arts fx o ≡ true
  pub dated_ack : (o : Kept) → t.ack ≡ Some o → is_dated ls o.body ≡ true
  pub dated_rel : (o : Kept) (os : List Kept) → t.rels ≡ o ∷ os → is_dated ls o.body ≡ true
  pub window : t.have ≤ t.base + bound
  pub no_ack : has_ack t.ack ≡ false → t.base ≤ (flow_in r.flows flow).at.base
  pub next_there : number_in t.rels ≤ t.have
  pub next_near : number_in t.rels ≤ max (flow_in r.flows flow).at.have t.base + 1
  pub at_source : is_from r flow ≡ true → t.have ≤ (flow_in r.flows flow).at.have
  pub low : is_from r flow ≡ true → t.base ≤ (flow_in r.flows flow).at.have
  pub at_end : is_to r flow ≡ true → t.base ≤ (flow_in r.flows flow).at.base

pub record SlotHeeded (flow : Flow) (bound : ℕ) (r z : RelState) (t : Report) : Type 0 where
  pub base : t.base ≤ (flow_in z.flows flow).at.base
  pub have : is_to r flow ≡ false → number_in t.rels ≤ (flow_in z.flows flow).at.have
  pub have_at_end : is_to r flow ≡ true
      → min (number_in t.rels) ((flow_in r.flows flow).at.have - length (flow_in r.flows flow).inbox + bound) ≤ (flow_in z.flows flow).at.have

acks_heard : (kind : FlowKind) (arts : Arts) (fx : Fixed) (ls : List Life) (nodes : List NodeId) (bound : ℕ) (v : NodeId) (flow : Flow) (r : RelState)
    (o : Option Kept)
    (base : ℕ) → Ready nodes bound v flow r → AreNodes nodes flow → SlotAck kind flow base o
    → ((k : Kept) → o ≡ Some k → is_signed arts fx k ≡ true) → ((k : Kept) → o ≡ Some k → is_dated ls k.body ≡ true)
    → (has_ack o ≡ false → base ≤ (flow_in r.flows flow).at.base)
    → (is_from r flow ≡ true → base ≤ (flow_in r.flows flow).at.have) → (is_to r flow ≡ true → base ≤ (flow_in r.flows flow).at.base)
    → base ≤ (flow_in (after_acks arts fx ls r flow o).flows flow).at.base
acks_heard kind arts fx ls nodes bound v flow r None base ready are No_ack signed dated none at_source at_end = none refl
acks_heard kind arts fx ls nodes bound v flow r (Some o) base ready are (Has_ack x is_ack number) signed dated none at_source at_end =
    ack_heard kind arts fx ls nodes bound v flow r o base ready are is_ack number (signed o refl) (dated o refl) at_source at_end

rels_heard : (kind : FlowKind) (edge : ℕ) (arts : Arts) (fx : Fixed) (ls : List Life) (over : Body → Bool) (nodes : List NodeId) (bound : ℕ) (v : NodeId)
    (flow : Flow) (r : RelState)
    (os : List Kept) → ((m : Body) → goes_over edge m ≡ true → over m ≡ true) → Ready nodes bound v flow r → AreNodes nodes flow
    → SlotRel kind flow edge os
    → ((k : Kept) (ks : List Kept) → os ≡ k ∷ ks → is_signed arts fx k ≡ true)
    → ((k : Kept) (ks : List Kept) → os ≡ k ∷ ks → is_dated ls k.body ≡ true) → number_in os ≤ (flow_in r.flows flow).at.have + 1
    → number_in os ≤ (flow_in r.flows flow).at.base + bound
    → (is_from r flow ≡ true → number_in os ≤ (flow_in r.flows flow).at.have)
    → (is_to r flow ≡ false → number_in os ≤ (flow_in (after_rels arts fx ls over r flow os).flows flow).at.have)
    × (is_to r flow ≡ true
    → min (number_in os) ((flow_in r.flows flow).at.have - length (flow_in r.flows flow).inbox + bound)
    ≤ (flow_in (after_rels arts fx ls over r flow os).flows flow).at.have)
rels_heard kind edge arts fx ls over nodes bound v flow r [] comes ready are No_rel signed dated near window at_source = (λ z. omega arith, λ z. omega arith)
rels_heard kind edge arts fx ls over nodes bound v flow r (o ∷ os) comes ready are (Has_rel x rest q is rel goes) signed dated near window at_source =
    let number = said flow q o.body is in
    let h = rel_heard arts fx ls over nodes bound v flow r o q ready are is (signed o os refl) (dated o os refl) (comes o.body goes)
    (omega (arith, number, near)) (omega (arith, number, window))
    (λ z. let low = at_source z in omega (arith, number, low)) in
    let up = (rels_later arts fx ls over (after_rel arts fx ls over r flow o) flow os flow).have in
    (λ z. let have = h.0 z in omega (arith, have, number, up), λ z. let have = h.1 z in omega (arith, have, number, up))

pub slot_heeded : (kind : FlowKind) (edge : ℕ) (arts : Arts) (fx : Fixed) (ls : List Life) (over : Body → Bool) (nodes : List NodeId) (bound : ℕ) (v u : NodeId)
    (flow : Flow)
    (r : RelState) (t : Report) → Ready nodes bound v flow r → AreNodes nodes flow → SlotFits kind edge arts fx ls over flow bound r t
    → SlotHeeded flow bound r (after_slot arts fx ls over r u (Some t)) t
slot_heeded kind edge arts fx ls over nodes bound v u flow r t ready are fits =
    let r2 = after_report ls r u t in
    let ready2 = ready_report ls nodes bound v flow r u t ready in
    let r3 = after_acks arts fx ls r2 flow t.ack in
    let ready3 = ready_acks arts fx ls nodes bound v flow r2 t.ack ready2 in
    let r4 = after_rels arts fx ls over r3 flow t.rels in
    let flow2 : flow_in r2.flows flow ≡ flow_in r.flows flow = ap (λ fs. flow_in fs flow) (report_flows ls r u t) in
    let base2 = ap (λ (f : FlowState). f.at.base) flow2 in
    let have2 = ap (λ (f : FlowState). f.at.have) flow2 in
    let inbox2 = ap (λ (f : FlowState). length f.inbox) flow2 in
    let from2 : is_from r flow ≡ is_from r2 flow = ap (λ (m : NodeId). m.0 == flow.src.0) (ready.me ∙ sym ready2.me) in
    let to2 : is_to r flow ≡ is_to r2 flow = ap (λ (m : NodeId). m.0 == flow.dst.0) (ready.me ∙ sym ready2.me) in
    let from3 : is_from r flow ≡ is_from r3 flow = ap (λ (m : NodeId). m.0 == flow.src.0) (ready.me ∙ sym ready3.me) in
    let to3 : is_to r flow ≡ is_to r3 flow = ap (λ (m : NodeId). m.0 == flow.dst.0) (ready.me ∙ sym ready3.me) in
    let later3 = acks_later arts fx ls r2 flow t.ack flow in
    let up_have = later3.have in
    let up_taken = later3.taken in
    let sound = (flow_ack r flow ready.acks).sound in
    let sound3 = (flow_ack r3 flow ready3.acks).sound in
    let base3 = acks_heard kind arts fx ls nodes bound v flow r2 t.ack t.base ready2 are fits.ack fits.signed_ack fits.dated_ack
    (λ z. let l = fits.no_ack z in omega (arith, l, base2))
    (λ z. let l = fits.low (from2 ∙ z) in omega (arith, l, have2)) (λ z. let l = fits.at_end (to2 ∙ z) in omega (arith, l, base2)) in
    let near = fits.next_near in
    let there = fits.next_there in
    let window = fits.window in
    let h = rels_heard kind edge arts fx ls over nodes bound v flow r3 t.rels fits.comes ready3 are fits.rels fits.signed_rel fits.dated_rel
    (omega (arith, near, have2, up_have, base3, sound3)) (omega (arith, there, window, base3))
    (λ z. let l = fits.at_source (from3 ∙ z) in omega (arith, l, there, have2, up_have)) in
    let up4 = (rels_later arts fx ls over r3 flow t.rels flow).base in
    let it : SlotHeeded flow bound r r4 t = record {
      base = omega (arith, base3, up4);
      have = λ z. h.0 (sym to3 ∙ z);
      have_at_end = λ z. let m = h.1 (sym to3 ∙ z) in omega (arith, m, up_taken, have2, inbox2);
    } in
    subst (λ (z : RelState). SlotHeeded flow bound r z t)
    (ap (λ fl. after_rels arts fx ls over (after_acks arts fx ls (after_report ls r u t) fl t.ack) fl t.rels) (sym fits.flow_is)) it

-- ---- the view after it

abbrev pub view_of : RelState → NodeId → Flow → View
view_of r u flow = view_in (peer_in r.peers u).views flow

acks_peers : (arts : Arts) (fx : Fixed) (ls : List Life) (r : RelState) (fl : Flow) (o : Option Kept) → (after_acks arts fx ls r fl o).peers ≡ r.peers
acks_peers arts fx ls r fl None = refl
acks_peers arts fx ls r fl (Some o) =
    cond_either (λ (z : RelState). z.peers ≡ r.peers) (is_new (items.Ack (ack_answer (is_signed arts fx o) (is_dated ls o.body) (judge_ack_of r fl o.body))))
    (admit_ack r o) r refl refl

rels_peers : (arts : Arts) (fx : Fixed) (ls : List Life) (over : Body → Bool) (r : RelState) (fl : Flow) (os : List Kept)
    → (after_rels arts fx ls over r fl os).peers ≡ r.peers
rels_peers arts fx ls over r fl [] = refl
rels_peers arts fx ls over r fl (o ∷ os) =
    rels_peers arts fx ls over (after_rel arts fx ls over r fl o) fl os
    ∙ cond_either (λ (z : RelState). z.peers ≡ r.peers)
    (is_new (items.Rel (rel_answer (is_signed arts fx o) (is_dated ls o.body) (over o.body) (judge_rel_of r fl o.body))))
    (admit_rel r o) r refl refl

pub slot_peers : (arts : Arts) (fx : Fixed) (ls : List Life) (over : Body → Bool) (r : RelState) (u : NodeId) (t : Report)
    → (after_slot arts fx ls over r u (Some t)).peers ≡ (after_report ls r u t).peers
slot_peers arts fx ls over r u t =
    let r2 = after_report ls r u t in
    rels_peers arts fx ls over (after_acks arts fx ls r2 t.flow t.ack) t.flow t.rels ∙ acks_peers arts fx ls r2 t.flow t.ack

any_key : (flow : Flow) (ws : List View) → list_any (is_view flow) ws ≡ list_any (is_mine flow) (map view_ends ws)
any_key flow [] = refl
any_key flow (w ∷ ws) = ap (λ t. is_view flow w || t) (any_key flow ws)

any_ends : (flow : Flow) (fs : List FlowState) → list_any (is_flow flow) fs ≡ list_any (is_mine flow) (map ends fs)
any_ends flow [] = refl
any_ends flow (f ∷ fs) = ap (λ t. is_flow flow f || t) (any_ends flow fs)

pub record SlotDone (flow : Flow) (r z : RelState) (u : NodeId) (f : Told) : Type 0 where
  pub views : (view_of z u flow ≡ view_of r u flow) ⊎ ((f.mine ≡ true) × ((view_of z u flow).base ≡ f.base) × ((view_of z u flow).have ≡ f.have))
  pub active : f.mine ≡ true → (flow_in r.flows flow).active ≡ true → ((view_of z u flow).base ≡ f.base) × ((view_of z u flow).have ≡ f.have)

report_done : (nodes : List NodeId) (r : RelState) (u : NodeId) (flow fl : Flow) (base have : ℕ) → RelRows nodes r → map ends r.flows ≡ pairs_of nodes
    → list_any (is_peer u) r.peers ≡ true → list_any (is_flow flow) r.flows ≡ true
    → (t : Bool) → (flow_in r.flows fl).active ≡ t
    → ((is_mine flow fl ≡ true) × (t ≡ true) × ((view_of (reported r u fl base have) u flow).base ≡ base)
    × ((view_of (reported r u fl base have) u flow).have ≡ have))
    ⊎ (((is_mine flow fl ≡ false) ⊎ (t ≡ false)) × (view_of (reported r u fl base have) u flow ≡ view_of r u flow))
report_done nodes r u flow fl base have rows keys there row false e =
    inr (inr refl, ap (λ t. view_of (cond t (with_peer r u (told (peer_in r.peers u) fl base have)) r) u flow) e)
report_done nodes r u flow fl base have rows keys there row true e =
    let p = peer_in r.peers u in
    let q = told p fl base have in
    let w : View = record { src = fl.src; dst = fl.dst; base = base; have = have } in
    let is : reported r u fl base have ≡ with_peer r u q = ap (λ t. cond t (with_peer r u q) r) e in
    let peer : peer_in (with_peer r u q).peers u ≡ q =
    first_replaced (is_peer u) (new_peer [] u) q r.peers (eq-eqb _ _ (ap (λ (n : NodeId). n.0) (peer_is r u))) there in
    let at : view_of (reported r u fl base have) u flow ≡ view_in q.views flow =
    ap (λ (z : RelState). view_of z u flow) is ∙ ap (λ (z : RelPeer). view_in z.views flow) peer in
    elim (cases_Bool (is_mine flow fl)) [
      | inl mine ↦
          let same = same_flow flow fl mine in
          let views = first_there (ViewsAre nodes) (is_peer u) (new_peer [] u) r.peers rows.views there in
          let stands : list_any (is_view flow) p.views ≡ true =
          any_key flow p.views ∙ ap (list_any (is_mine flow)) (views ∙ sym keys) ∙ sym (any_ends flow r.flows) ∙ row in
          let put : view_in q.views flow ≡ w =
          ap (λ g. view_in (replace_where (is_view g) w p.views) flow) same ∙ first_replaced (is_view flow) (no_view flow) w p.views mine stands in
          inl (mine, refl, ap (λ (z : View). z.base) (at ∙ put), ap (λ (z : View). z.have) (at ∙ put))
      | inr off ↦
          let stays : view_in q.views flow ≡ view_in p.views flow =
          other_replaced (is_view fl) (is_view flow) (no_view flow) w p.views (λ z t. ap (is_mine flow) (same_flow fl (view_ends z) t) ∙ off) off in
          inr (inl off, at ∙ stays)
    ]

pub slot_done : (arts : Arts) (fx : Fixed) (ls : List Life) (over : Body → Bool) (nodes : List NodeId) (r : RelState) (u : NodeId) (era : Era) (flow : Flow)
    (o : Option Report) → held_boot ls flow.src ≡ era.sboot → held_boot ls flow.dst ≡ era.dboot → RelRows nodes r → map ends r.flows ≡ pairs_of nodes
    → list_any (is_peer u) r.peers ≡ true
    → list_any (is_flow flow) r.flows ≡ true → SlotDone flow r (after_slot arts fx ls over r u o) u (told_slot era flow true o)
slot_done arts fx ls over nodes r u era flow None src dst rows keys there row =
    record { views = inl refl; active = λ z. absurd (let f : false ≡ true = z in cc) }
slot_done arts fx ls over nodes r u era flow (Some t) src dst rows keys there row = elim (cases_Bool (are_held ls t.flow t.sboot t.dboot)) [
  | inl under ↦
      let same : view_of (after_slot arts fx ls over r u (Some t)) u flow ≡ view_of (reported r u t.flow t.base t.have) u flow =
      ap (λ ps. view_in (peer_in ps u).views flow) (slot_peers arts fx ls over r u t)
      ∙ ap (λ b. view_of (cond b (reported r u t.flow t.base t.have) r) u flow) under in
      let counts : is_mine flow t.flow ≡ true → is_slot era flow t ≡ true = λ mine. slot_counts mine under in
      elim (report_done nodes r u flow t.flow t.base t.have rows keys there row (flow_in r.flows t.flow).active refl) [
        | inl got ↦ record {
          views = inr (counts got.0, ap (λ (z : View). z.base) same ∙ got.2, ap (λ (z : View). z.have) same ∙ got.3);
          active = λ mine on. (ap (λ (z : View). z.base) same ∙ got.2, ap (λ (z : View). z.have) same ∙ got.3);
        }
        | inr stays ↦ record {
          views = inl (same ∙ stays.1);
          active = λ mine on. absurd (elim stays.0 [
            | inl off ↦ let f : true ≡ false = sym (of_slot mine).0 ∙ off in cc
            | inr off ↦ let f : true ≡ false = sym on ∙ ap (λ fl. (flow_in r.flows fl).active) (sym (same_flow flow t.flow (of_slot mine).0)) ∙ off in cc
          ]);
        }
      ]
  | inr dropped ↦ record {
    views = inl (ap (λ ps. view_in (peer_in ps u).views flow) (slot_peers arts fx ls over r u t)
        ∙ ap (λ b. view_of (cond b (reported r u t.flow t.base t.have) r) u flow) dropped);
    active = λ mine on. absurd (let f : true ≡ false = sym (slot_held (of_slot mine)) ∙ dropped in cc);
  }
]
  where
    of_slot : is_slot era flow t ≡ true → (is_mine flow t.flow ≡ true) × ((t.sboot ≡ era.sboot) × (t.dboot ≡ era.dboot))
    of_slot is =
        let a = both _ _ is in
        let b = both _ _ a.1 in
        (a.0, (eqb-true _ _ b.0, eqb-true _ _ b.1))

    slot_counts : is_mine flow t.flow ≡ true → are_held ls t.flow t.sboot t.dboot ≡ true → is_slot era flow t ≡ true
    slot_counts mine under =
        let h = both _ _ under in
        let its = same_flow flow t.flow mine in
        let one : (t.sboot == era.sboot) ≡ true = eq-eqb _ _ (eqb-true _ _ h.0 ∙ ap (λ (g : Flow). held_boot ls g.src) its ∙ src) in
        let two : (t.dboot == era.dboot) ≡ true = eq-eqb _ _ (eqb-true _ _ h.1 ∙ ap (λ (g : Flow). held_boot ls g.dst) its ∙ dst) in
        rw (mine, one) two

    slot_held : (is_mine flow t.flow ≡ true) × ((t.sboot ≡ era.sboot) × (t.dboot ≡ era.dboot)) → are_held ls t.flow t.sboot t.dboot ≡ true
    slot_held it =
        let its = same_flow flow t.flow it.0 in
        let one : (t.sboot == held_boot ls t.flow.src) ≡ true = eq-eqb _ _ (it.1.0 ∙ sym src ∙ ap (λ (g : Flow). held_boot ls g.src) (sym its)) in
        let two : (t.dboot == held_boot ls t.flow.dst) ≡ true = eq-eqb _ _ (it.1.1 ∙ sym dst ∙ ap (λ (g : Flow). held_boot ls g.dst) (sym its)) in
        rw one two
