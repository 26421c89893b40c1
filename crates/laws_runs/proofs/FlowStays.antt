-- Where no node moves, what holds of a flow stays; and a node that starts, or that reserves indexes, is as it says.
use Rattle.std.proofs.Common.{◌≡◌, ◌≤◌, ℕ, true, false, List, [], ◌∷◌, ◌++◌, length, map, Some, None, sym, ap, subst, ◌∙◌, inl, inr, arith}
use Rattle.std.specs.Prelude.{◌==◌, IsTrue}
use Rattle.std.specs.List.{list_any}
use Rattle.std.proofs.lemmas.List.{append-nil}
use Rattle.sp_base.specs.Lists.{IsPrefix}
use Rattle.sp_base.specs.Position.{Position}
use Rattle.sp_base.specs.declared.id.NodeId.{NodeId}
use Rattle.sp_epoch.specs.Numbers.{numbers_at}
use Rattle.sp_msg.specs.Bodies.{payload_of}
use Rattle.sp_msg.specs.declared.body.Body.{Body}
use Rattle.sp_msg.specs.declared.kept.Kept.{Kept}
use Rattle.sp_rules.specs.Arts.{Arts}
use Rattle.sp_rules.specs.Flow.{boots_said, is_flow, no_flow, number_said}
use Rattle.sp_rules.specs.Lives.{held_boot}
use Rattle.sp_rules.specs.Node.{NodeState}
use Rattle.sp_rules.specs.Parts.{Parts, flows_of}
use Rattle.sp_rules.specs.declared.kflow.FlowKind.{FlowKind}
use Rattle.laws_node.specs.Flows.{IsRelOf}
use Rattle.sp_rules.specs.Rel.{RelState, flow_in, pairs_of, is_over}
use Rattle.sp_rules.specs.Window.{greatest}
use Rattle.sp_runs.specs.Forgery.{is_among}
use Rattle.sp_runs.specs.Inputs.{acting}
use Rattle.sp_runs.specs.Lives.{ready}
use Rattle.sp_runs.specs.Settings.{Setting, is_correct}
use Rattle.sp_runs.specs.Told.{accepted_in, delivered_by, signed, signed_by, told_at}
use Rattle.sp_runs.specs.Worlds.{World, node_in}
use Rattle.sp_journal.specs.declared.entry.Entry.{Entry}
use Rattle.sp_schedule_events.specs.declared.event.Event.{Event}
use Rattle.laws_runs.specs.Flows.{IsIn, AreNumbered}
use Rattle.laws_runs.specs.LifeFlows.{acknowledged_under, acks_under}
use Rattle.laws_runs.specs.Past.{Happened, delivered_under, sent_under, told_under}
use Rattle.laws_runs.proofs.FlowAcks.{under_both}
use Rattle.laws_runs.proofs.FlowFacts.{RelIs, flow_of, seat_dst, seat_src}
use Rattle.laws_runs.proofs.FlowRows.{at_boot}
use Rattle.laws_runs.proofs.Flows.{FlowsHold, NodeAt}
use Rattle.laws_runs.proofs.Lists.{among_or, here_is, none_either, told_more}
use Rattle.laws_runs.proofs.PastFacts.{past_more}
use Rattle.laws_runs.proofs.Ready.{ready_boots, readied_parts, was_there}

-- ---- a node that says and keeps the same

pub same_parts : (kind : FlowKind) (arts : Arts) (C : Type 0) (s d : NodeId) (es : List Event) (js : List Entry) (past : List Happened) (u : NodeId)
    (n m : NodeState)
    → m.parts ≡ n.parts
    → NodeAt kind arts C s d es js past u n → NodeAt kind arts C s d es js past u m
same_parts kind arts C s d es js past u n m same at = subst (λ (p : Parts). NodeAt kind arts C s d es js past u (record m { parts = p })) (sym same) (record {
  rel = at.rel;
  fresh_source = at.fresh_source;
  fresh_end = at.fresh_end;
})

-- the world in which a node acts
pub readied_on : (kind : FlowKind) (arts : Arts) (x : Setting) (s d : NodeId) (es : List Event) (js : List Entry) (past : List Happened) (w : World) (e : Event)
    → FlowsHold kind arts x s d es js past w → FlowsHold kind arts x s d es js past (ready x w e)
readied_on kind arts x s d es js past w e h = record {
  nodes = λ u n at.
      let was = was_there x w e u n at in
      same_parts kind arts (IsTrue (is_correct x s)) s d es js past u was.before n (readied_parts x w was.before n was.readied).0
      (h.nodes u was.before was.is_there);
  prefix = h.prefix;
  low = h.low;
  numbers = h.numbers;
  messages = h.messages;
  unborn_source = λ a b lt. h.unborn_source a b (let same = ready_boots x w e s in omega (arith, same, lt));
  unborn_end = λ a b lt. h.unborn_end a b (let same = ready_boots x w e d in omega (arith, same, lt));
}

-- ---- an event of which nothing is told but what it signed, and that is neither an acknowledgement of d nor a message of s

module _ (kind : FlowKind) (arts : Arts) (x : Setting) (s d : NodeId) (es : List Event) (js : List Entry) (past : List Happened) (w new : World) (e : Event)
    (j : Entry)
    (even : length es ≡ length js) (h : FlowsHold kind arts x s d es js past w)
    (no_acks : (p q : ℕ) → greatest (acks_under kind arts s p d q (told_at d signed_by (e, j))) ≡ 0)
    (no_message : (m : Body) → IsRelOf kind m → IsTrue (arts.is_good m) → is_among (arts.spell m) (told_at s signed_by (e, j)) ≡ true → ⊥)
    (rise : (v : NodeId) → (numbers_at w.keys v).boot ≤ (numbers_at new.keys v).boot) where
  abbrev C : Type 0
  C = IsTrue (is_correct x s)

  abbrev es2 : List Event
  es2 = es ++ e ∷ []

  abbrev js2 : List Entry
  js2 = js ++ j ∷ []

  abbrev past2 : List Happened
  past2 = past ++ record { event = e; entry = j; mover = None } ∷ []

  sent_same : (p q : ℕ) → sent_under kind past2 s p d q ≡ sent_under kind past s p d q
  sent_same p q = past_more (λ y. told_under s p d q (accepted_in kind s d y.event y.entry.reply) y.mover) past (record { event = e; entry = j; mover = None })
      ∙ append-nil (sent_under kind past s p d q)

  del_same : (p q : ℕ) → delivered_under kind past2 s p d q ≡ delivered_under kind past s p d q
  del_same p q = past_more (λ y. told_under s p d q (told_at d (delivered_by kind s) (y.event, y.entry)) y.mover) past
      (record { event = e; entry = j; mover = None })
      ∙ append-nil (delivered_under kind past s p d q)

  ack_same : (p q : ℕ) → acknowledged_under kind arts es2 js2 s p d q ≡ acknowledged_under kind arts es js s p d q
  ack_same p q =
      let all = ap (λ xs. greatest (acks_under kind arts s p d q xs)) (told_more (told_at d signed_by) es js e j even)
      ∙ under_both kind arts s p d q (signed es js d) (told_at d signed_by (e, j)) in
      let zero = no_acks p q in
      omega (arith, all, zero)

  rel_same : (p q : ℕ) (v : NodeId) (r : RelState)
      → RelIs C s d (sent_under kind past s p d q) (delivered_under kind past s p d q) (acknowledged_under kind arts es js s p d q) v r
      → RelIs C s d (sent_under kind past2 s p d q) (delivered_under kind past2 s p d q) (acknowledged_under kind arts es2 js2 s p d q) v r
  rel_same p q v r h =
      subst (λ X. RelIs C s d X (delivered_under kind past2 s p d q) (acknowledged_under kind arts es2 js2 s p d q) v r) (sym (sent_same p q))
      (subst (λ Y. RelIs C s d (sent_under kind past s p d q) Y (acknowledged_under kind arts es2 js2 s p d q) v r) (sym (del_same p q))
      (subst (λ c. RelIs C s d (sent_under kind past s p d q) (delivered_under kind past s p d q) c v r) (sym (ack_same p q)) h))

  pub node_same : (v : NodeId) (n : NodeState) → NodeAt kind arts C s d es js past v n → NodeAt kind arts C s d es2 js2 past2 v n
  node_same v n old = record {
    rel = rel_same (held_boot n.parts.lives s) (held_boot n.parts.lives d) v (flows_of kind n.parts) old.rel;
    fresh_source = λ z y lt. sent_same (held_boot n.parts.lives s) y ∙ old.fresh_source z y lt;
    fresh_end = λ z y lt.
        let was = old.fresh_end z y lt in (del_same y (held_boot n.parts.lives d) ∙ was.0, ack_same y (held_boot n.parts.lives d) ∙ was.1);
  }

  pub all_same : ((v : NodeId) (n : NodeState) → node_in new.nodes v ≡ Some n → NodeAt kind arts C s d es js past v n)
      → FlowsHold kind arts x s d es2 js2 past2 new
  all_same each = record {
    nodes = λ v n at. node_same v n (each v n at);
    prefix = λ k p q. subst (λ X. IsPrefix X (sent_under kind past2 s p d q)) (sym (del_same p q))
        (subst (λ Y. IsPrefix (delivered_under kind past s p d q) Y) (sym (sent_same p q)) (h.prefix k p q));
    low = λ p q.
        let was = h.low p q in
        let same = ack_same p q in
        let far : length (delivered_under kind past2 s p d q) ≡ length (delivered_under kind past s p d q) = ap length (del_same p q) in
        omega (arith, was, same, far);
    numbers = λ k p q. subst (AreNumbered 0) (sym (sent_same p q)) (h.numbers k p q);
    messages = λ k m is good said among.
        elim (among_or (arts.spell m) (signed es js s) (told_at s signed_by (e, j))
        (subst (λ xs. is_among (arts.spell m) xs ≡ true) (told_more (told_at s signed_by) es js e j even) among)) [
          | inl old ↦
              subst (λ X. IsIn X (number_said m) (payload_of m)) (sym (sent_same (boots_said m).0 (boots_said m).1)) (h.messages k m is good said old)
          | inr now ↦ absurd (no_message m is good now)
        ];
    unborn_source = λ p q lt. let up = rise s in sent_same p q ∙ h.unborn_source p q (omega (arith, up, lt));
    unborn_end = λ p q lt. let up = rise d in let was = h.unborn_end p q (omega (arith, up, lt)) in (del_same p q ∙ was.0, ack_same p q ∙ was.1);
  }

-- nothing was signed
none_told : (v : NodeId) (e : Event) (j : Entry) → j.effects ≡ [] → told_at v signed_by (e, j) ≡ []
none_told v e j none = here_is v signed_by e j [] none ∙ none_either ((acting e).0 == v.0)

pub stays_on : (kind : FlowKind) (arts : Arts) (x : Setting) (s d : NodeId) (es : List Event) (js : List Entry) (past : List Happened) (w new : World)
    (e : Event) (j : Entry)
    → length es ≡ length js → FlowsHold kind arts x s d es js past w → j.effects ≡ []
    → ((v : NodeId) → (numbers_at w.keys v).boot ≤ (numbers_at new.keys v).boot)
    → ((v : NodeId) (n : NodeState) → node_in new.nodes v ≡ Some n → node_in w.nodes v ≡ Some n)
    → FlowsHold kind arts x s d (es ++ e ∷ []) (js ++ j ∷ []) (past ++ record { event = e; entry = j; mover = None } ∷ []) new
stays_on kind arts x s d es js past w new e j even h none rise nodes =
    all_same kind arts x s d es js past w new e j even h
    (λ p q. ap (λ xs. greatest (acks_under kind arts s p d q xs)) (none_told d e j none))
    (λ m is good among. let f : false ≡ true = subst (λ xs. is_among (arts.spell m) xs ≡ true) (none_told s e j none) among in cc)
    rise (λ v n at. h.nodes v n (nodes v n at))

-- ---- a node of which nothing came yet

-- under boots under which nothing was sent or delivered here
pub first_at : (kind : FlowKind) (arts : Arts) (C : Type 0) (s d : NodeId) (es : List Event) (js : List Entry) (past : List Happened) (u : NodeId)
    → (n : NodeState) (nodes : List NodeId) → (flows_of kind n.parts).me ≡ u → (flows_of kind n.parts).flows ≡ map no_flow (pairs_of nodes)
    → list_any (is_flow (flow_of s d)) (map no_flow (pairs_of nodes)) ≡ true
    → (u ≡ s → (q : ℕ) → sent_under kind past s (held_boot n.parts.lives s) d q ≡ [])
    → (u ≡ d → (p : ℕ)
    → (delivered_under kind past s p d (held_boot n.parts.lives d) ≡ []) × (acknowledged_under kind arts es js s p d (held_boot n.parts.lives d) ≡ 0))
    → NodeAt kind arts C s d es js past u n
first_at kind arts C s d es js past u n nodes me flows row no_s no_d =
    let zero = ap (λ fs. (flow_in fs (flow_of s d)).at) flows ∙ at_boot (pairs_of nodes) (flow_of s d) in
    let base = ap (λ (y : Position Kept). y.base) zero in
    let have = ap (λ (y : Position Kept). y.have) zero in
    let over = is_over (flows_of kind n.parts).removed (flow_of s d) in
    record {
      rel = record {
        me = me;
        row = ap (list_any (is_flow (flow_of s d))) flows ∙ row;
        flow = record {
          base = omega (arith, base);
          base_end = λ z. let no = no_d (seat_dst over s d u z) (held_boot n.parts.lives s) in let ack = no.1 in omega (arith, base, ack);
          have_end = λ z. have ∙ (let no = no_d (seat_dst over s d u z) (held_boot n.parts.lives s) in ap length (sym no.0));
          have = λ k. omega (arith, have);
          have_source = λ k z. have ∙ ap length (sym (no_s (seat_src over s d u z) (held_boot n.parts.lives d)));
        };
      };
      fresh_source = λ z y lt. no_s z y;
      fresh_end = λ z p lt. no_d z p;
    }
