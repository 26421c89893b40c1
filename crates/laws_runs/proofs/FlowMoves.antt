-- A node moves: what its step keeps of a flow holds in the world, of each pair of boots.
use Rattle.std.proofs.Common.{◌≡◌, ◌<◌, ◌≤◌, ℕ, ◌+◌, max, true, false, cond, List, [], ◌∷◌, ◌++◌, length, Some, refl, sym, ap, subst, ◌∙◌, inl, inr, arith}
use Rattle.std.specs.Prelude.{◌==◌, ◌⊎◌, IsTrue}
use Rattle.std.specs.List.{flat_map}
use Rattle.std.proofs.lemmas.Bool.{cases_Bool, cases_eq, eqb-true, ne_eqb}
use Rattle.std.proofs.lemmas.List.{append-nil}
use Rattle.sp_base.specs.Lists.{IsPrefix}
use Rattle.sp_base.specs.declared.id.NodeId.{NodeId}
use Rattle.sp_epoch.specs.Numbers.{numbers_at}
use Rattle.sp_msg.specs.Bodies.{payload_of}
use Rattle.sp_msg.specs.declared.effect.Effect.{Effect}
use Rattle.sp_rules.specs.Arts.{Arts}
use Rattle.sp_rules.specs.Flow.{boots_said, number_said}
use Rattle.sp_rules.specs.Lives.{held_boot}
use Rattle.sp_rules.specs.Parts.{flows_of}
use Rattle.sp_rules.specs.declared.kflow.FlowKind.{FlowKind}
use Rattle.sp_rules.specs.Node.{NodeState}
use Rattle.sp_rules.specs.Rel.{flow_in, is_over}
use Rattle.sp_rules.specs.Window.{greatest}
use Rattle.laws_node.proofs.Epochs.{own_boot_stays}
use Rattle.sp_runs.specs.Forgery.{is_among}
use Rattle.sp_runs.specs.Inputs.{acting}
use Rattle.sp_runs.specs.Runs.{Move}
use Rattle.sp_runs.specs.Settings.{Setting, is_correct}
use Rattle.sp_runs.specs.Told.{Message, accepted_in, delivered_by, signed, signed_by, told_at}
use Rattle.sp_runs.specs.Worlds.{World, node_in}
use Rattle.sp_journal.specs.declared.entry.Entry.{Entry}
use Rattle.sp_schedule_events.specs.declared.event.Event.{Event}
use Rattle.laws_runs.specs.Flows.{IsIn, AreNumbered}
use Rattle.laws_runs.specs.LifeFlows.{acknowledged_under, acks_under}
use Rattle.laws_runs.specs.Past.{Happened, delivered_under, holds, sent_under, told_under}
use Rattle.laws_runs.proofs.FlowAcks.{acked_away, acked_here, under_both}
use Rattle.laws_runs.proofs.FlowFacts.{RelIs, flow_grown, flow_of, in_more, seat_dst, seat_in, seat_src}
use Rattle.laws_runs.proofs.FlowNodes.{StepIs}
use Rattle.laws_runs.proofs.FlowPieces.{told_here}
use Rattle.laws_runs.proofs.FlowStarts.{EndsUp, Same, New_source, New_end}
use Rattle.laws_runs.proofs.Flows.{FlowsHold, NodeAt}
use Rattle.laws_runs.proofs.Lists.{among_or, here_is, none_either, told_more}
use Rattle.laws_runs.proofs.PastFacts.{holds_no_other, holds_own, past_more, same_boots}
use Rattle.laws_runs.proofs.Tables.{node_is, node_put, same_node}

-- ---- one more event

numbered_both : (after : ℕ) (xs ys : List Message) → AreNumbered after xs → AreNumbered (after + length xs) ys → AreNumbered after (xs ++ ys)
numbered_both after [] ys one two = subst (λ n. AreNumbered n ys) (let e : after + 0 ≡ after = omega arith in e) two
numbered_both after (x ∷ xs) ys one two =
    let more : after + length (x ∷ xs) ≡ after + (length xs + 1) = omega arith in
    let turn : after + (length xs + 1) ≡ after + 1 + length xs = omega arith in
    (one.0, numbered_both (after + 1) xs ys one.1 (subst (λ n. AreNumbered n ys) turn (subst (λ n. AreNumbered n ys) more two)))

pub numbered_front : (after : ℕ) (xs ys : List Message) → AreNumbered after (xs ++ ys) → AreNumbered after xs
numbered_front after [] ys h = tt
numbered_front after (x ∷ xs) ys h = (h.0, numbered_front (after + 1) xs ys h.1)

-- ---- the step

module _ (kind : FlowKind) (arts : Arts) (x : Setting) (s d : NodeId) (es : List Event) (js : List Entry) (past : List Happened) (w new : World) (e : Event)
    (j : Entry)
    (m : Move arts x w e j new) (even : length es ≡ length js) (me : m.after.fixed.me ≡ acting e) (h : FlowsHold kind arts x s d es js past w)
    (low : (v : NodeId) (n : NodeState) → node_in w.nodes v ≡ Some n → held_boot n.parts.lives v ≤ (numbers_at w.keys v).boot) where
  abbrev C : Type 0
  C = IsTrue (is_correct x s)

  abbrev SF : ℕ → ℕ → List Message
  SF p q = sent_under kind past s p d q

  abbrev DF : ℕ → ℕ → List Message
  DF p q = delivered_under kind past s p d q

  abbrev cF : ℕ → ℕ → ℕ
  cF p q = acknowledged_under kind arts es js s p d q

  abbrev u : NodeId
  u = acting e

  -- the boots that the node holds before it moves, and what the event tells of them
  abbrev a : ℕ
  a = held_boot m.node.parts.lives s

  abbrev b : ℕ
  b = held_boot m.node.parts.lives d

  abbrev effects : List Effect
  effects = m.output.effects

  abbrev T : List Message
  T = accepted_in kind s d e j.reply

  abbrev E : List Message
  E = told_here kind u s d effects

  abbrev es2 : List Event
  es2 = es ++ e ∷ []

  abbrev js2 : List Entry
  js2 = js ++ j ∷ []

  abbrev past2 : List Happened
  past2 = past ++ record { event = e; entry = j; mover = Some m.node } ∷ []

  module _ (st : StepIs kind arts C s d a b (SF a b) T (DF a b) (cF a b) SF DF cF u effects m.node m.after) where
    -- of itself the node holds what it held
    own : held_boot m.after.parts.lives u ≡ held_boot m.node.parts.lives u
    own = subst (λ (v : NodeId). held_boot m.after.parts.lives v ≡ held_boot m.node.parts.lives v) (node_is w.nodes u m.node m.is_there)
        (own_boot_stays arts m.node m.input m.output m.after m.step)

    at : NodeAt kind arts C s d es js past u m.node
    at = h.nodes u m.node m.is_there

    -- ---- what it adds

    sent_is : (p q : ℕ) → sent_under kind past2 s p d q ≡ SF p q ++ cond (holds m.node s p d q) T []
    sent_is p q = past_more (λ y. told_under s p d q (accepted_in kind s d y.event y.entry.reply) y.mover) past
        (record { event = e; entry = j; mover = Some m.node })

    del_is : (p q : ℕ) → delivered_under kind past2 s p d q ≡ DF p q ++ cond (holds m.node s p d q) E []
    del_is p q = past_more (λ y. told_under s p d q (told_at d (delivered_by kind s) (y.event, y.entry)) y.mover) past
        (record { event = e; entry = j; mover = Some m.node })
        ∙ ap (λ t. DF p q ++ cond (holds m.node s p d q) t []) (here_is d (delivered_by kind s) e j effects m.journal.effects)

    signed_is : (v : NodeId) → signed es2 js2 v ≡ signed es js v ++ cond (u.0 == v.0) (flat_map signed_by effects) []
    signed_is v = told_more (told_at v signed_by) es js e j even ∙ ap (λ t. signed es js v ++ t) (here_is v signed_by e j effects m.journal.effects)

    ack_is : (p q : ℕ) → acknowledged_under kind arts es2 js2 s p d q ≡ max (cF p q) (acked_here kind arts p q u s d effects)
    ack_is p q = ap (λ xs. greatest (acks_under kind arts s p d q xs)) (signed_is d)
        ∙ under_both kind arts s p d q (signed es js d) (cond (u.0 == d.0) (flat_map signed_by effects) [])

    sent_here : sent_under kind past2 s a d b ≡ SF a b ++ T
    sent_here = sent_is a b ∙ ap (λ t. SF a b ++ cond t T []) (holds_own m.node s d)

    del_here : delivered_under kind past2 s a d b ≡ DF a b ++ E
    del_here = del_is a b ∙ ap (λ t. DF a b ++ cond t E []) (holds_own m.node s d)

    sent_else : (p q : ℕ) → ((p ≡ a) × (q ≡ b) → ⊥) → sent_under kind past2 s p d q ≡ SF p q
    sent_else p q never = sent_is p q ∙ ap (λ t. SF p q ++ cond t T []) (holds_no_other m.node s d p q never) ∙ append-nil (SF p q)

    del_else : (p q : ℕ) → ((p ≡ a) × (q ≡ b) → ⊥) → delivered_under kind past2 s p d q ≡ DF p q
    del_else p q never = del_is p q ∙ ap (λ t. DF p q ++ cond t E []) (holds_no_other m.node s d p q never) ∙ append-nil (DF p q)

    ack_else : (p q : ℕ) → ((p ≡ a) × (q ≡ b) → ⊥) → acknowledged_under kind arts es2 js2 s p d q ≡ cF p q
    ack_else p q never = let zero = st.elsewhere p q never in let all = ack_is p q in omega (arith, zero, all)

    sent_away : (u ≡ s → ⊥) → (p q : ℕ) → sent_under kind past2 s p d q ≡ SF p q
    sent_away never p q = sent_is p q ∙ ap (λ t. SF p q ++ cond (holds m.node s p d q) t []) (st.no_t never)
        ∙ ap (λ t. SF p q ++ t) (none_either (holds m.node s p d q)) ∙ append-nil (SF p q)

    away : (u ≡ d → ⊥) → (u.0 == d.0) ≡ false
    away never = ne_eqb _ _ (λ e. never (same_node u d e))

    del_away : (u ≡ d → ⊥) → (p q : ℕ) → delivered_under kind past2 s p d q ≡ DF p q
    del_away never p q = del_is p q ∙ ap (λ t. DF p q ++ cond (holds m.node s p d q) (cond t (flat_map (delivered_by kind s) effects) []) []) (away never)
        ∙ ap (λ t. DF p q ++ t) (none_either (holds m.node s p d q)) ∙ append-nil (DF p q)

    ack_away : (u ≡ d → ⊥) → (p q : ℕ) → acknowledged_under kind arts es2 js2 s p d q ≡ cF p q
    ack_away never p q = let zero = (acked_away kind arts u s d effects never).under p q in let all = ack_is p q in omega (arith, zero, all)

    abbrev RelAt : (p q : ℕ) → NodeId → NodeState → Type 0
    RelAt p q v n =
        RelIs C s d (sent_under kind past2 s p d q) (delivered_under kind past2 s p d q) (acknowledged_under kind arts es2 js2 s p d q) v
        (flows_of kind n.parts)

    rel_here : (v : NodeId) (n : NodeState)
        → RelIs C s d (SF a b ++ T) (DF a b ++ E) (max (cF a b) (acked_here kind arts a b u s d effects)) v (flows_of kind n.parts)
        → RelAt a b v n
    rel_here v n r =
        subst (λ X. RelIs C s d X (delivered_under kind past2 s a d b) (acknowledged_under kind arts es2 js2 s a d b) v (flows_of kind n.parts)) (sym sent_here)
        (subst (λ Y. RelIs C s d (SF a b ++ T) Y (acknowledged_under kind arts es2 js2 s a d b) v (flows_of kind n.parts)) (sym del_here)
        (subst (λ c. RelIs C s d (SF a b ++ T) (DF a b ++ E) c v (flows_of kind n.parts)) (sym (ack_is a b)) r))

    rel_else : (p q : ℕ) → ((p ≡ a) × (q ≡ b) → ⊥) → (v : NodeId) (n : NodeState) → RelIs C s d (SF p q) (DF p q) (cF p q) v (flows_of kind n.parts)
        → RelAt p q v n
    rel_else p q never v n r =
        subst (λ X. RelIs C s d X (delivered_under kind past2 s p d q) (acknowledged_under kind arts es2 js2 s p d q) v (flows_of kind n.parts))
        (sym (sent_else p q never))
        (subst (λ Y. RelIs C s d (SF p q) Y (acknowledged_under kind arts es2 js2 s p d q) v (flows_of kind n.parts)) (sym (del_else p q never))
        (subst (λ c. RelIs C s d (SF p q) (DF p q) c v (flows_of kind n.parts)) (sym (ack_else p q never)) r))

    abbrev hs : ℕ
    hs = held_boot m.after.parts.lives s

    abbrev hd : ℕ
    hd = held_boot m.after.parts.lives d

    -- held boots never fall, and the flow is as they say
    record Ended : Type 0 where
      up_source : a ≤ hs
      up_end : b ≤ hd
      rel : RelAt hs hd u m.after

    ended : Ended
    ended = go st.ends
      where
        go : EndsUp C s d a b (SF a b ++ T) (DF a b ++ E) (max (cF a b) (acked_here kind arts a b u s d effects)) SF DF cF u m.after.parts.lives
            (flows_of kind m.after.parts)
            → Ended
        go (Same e f r) = record {
          up_source = omega (arith, e);
          up_end = omega (arith, f);
          rel = subst (λ p. RelAt p hd u m.after) (sym e) (subst (λ q. RelAt a q u m.after) (sym f) (rel_here u m.after r));
        }
        go (New_source p lt e f r) = record {
          up_source = omega (arith, e, lt);
          up_end = omega (arith, f);
          rel = subst (λ y. RelAt y hd u m.after) (sym e)
              (subst (λ q. RelAt p q u m.after) (sym f) (rel_else p b (λ z. let same = z.0 in absurd (omega (arith, lt, same))) u m.after r));
        }
        go (New_end q lt e f r) = record {
          up_source = omega (arith, e);
          up_end = omega (arith, f, lt);
          rel = subst (λ p. RelAt p hd u m.after) (sym e)
              (subst (λ y. RelAt a y u m.after) (sym f) (rel_else a q (λ z. let same = z.1 in absurd (omega (arith, lt, same))) u m.after r));
        }

    mover : NodeAt kind arts C s d es2 js2 past2 u m.after
    mover = record {
      rel = ended.rel;
      fresh_source = λ z y lt.
          let same : hs ≡ a = subst (λ (v : NodeId). held_boot m.after.parts.lives v ≡ held_boot m.node.parts.lives v) z own in
          let up = ended.up_end in
          let above : b < y = omega (arith, up, lt) in
          subst (λ p. sent_under kind past2 s p d y ≡ []) (sym same)
          (sent_else a y (λ e. let f = e.1 in absurd (omega (arith, above, f))) ∙ at.fresh_source z y above);
      fresh_end = λ z p lt.
          let same : hd ≡ b = subst (λ (v : NodeId). held_boot m.after.parts.lives v ≡ held_boot m.node.parts.lives v) z own in
          let up = ended.up_source in
          let above : a < p = omega (arith, up, lt) in
          let never : (p ≡ a) × (b ≡ b) → ⊥ = λ e. let f = e.0 in absurd (omega (arith, above, f)) in
          let old = at.fresh_end z p above in
          subst (λ q. (delivered_under kind past2 s p d q ≡ []) × (acknowledged_under kind arts es2 js2 s p d q ≡ 0)) (sym same)
          (del_else p b never ∙ old.0, ack_else p b never ∙ old.1);
    }

    others : (v : NodeId) (n : NodeState) → (v ≡ u → ⊥) → NodeAt kind arts C s d es js past v n → NodeAt kind arts C s d es2 js2 past2 v n
    others v n other old =
        let p = held_boot n.parts.lives s in
        let q = held_boot n.parts.lives d in
        let over = is_over (flows_of kind n.parts).removed (flow_of s d) in
        let not_s : v ≡ s → u ≡ s → ⊥ = λ y z. other (y ∙ sym z) in
        let not_d : v ≡ d → u ≡ d → ⊥ = λ y z. other (y ∙ sym z) in
        record {
          rel = elim (same_boots p q a b) [
            | inl e ↦
                let was : RelIs C s d (SF a b) (DF a b) (cF a b) v (flows_of kind n.parts) =
                subst (λ y. RelIs C s d (SF y b) (DF y b) (cF y b) v (flows_of kind n.parts)) e.0
                (subst (λ y. RelIs C s d (SF p y) (DF p y) (cF p y) v (flows_of kind n.parts)) e.1 old.rel) in
                let grown : RelIs C s d (SF a b ++ T) (DF a b ++ E) (max (cF a b) (acked_here kind arts a b u s d effects)) v (flows_of kind n.parts) = record {
                  me = was.me;
                  row = was.row;
                  flow = flow_grown C s d (SF a b) T (DF a b) E (cF a b) (max (cF a b) (acked_here kind arts a b u s d effects))
                      (seat_in s d v (flows_of kind n.parts))
                      (flow_in (flows_of kind n.parts).flows (flow_of s d)) (λ z. st.no_t (not_s (seat_src over s d v z)))
                      (λ z. let off = away (not_d (seat_dst over s d v z)) in rw off refl) (omega arith)
                      (λ z. let zero = (acked_away kind arts u s d effects (not_d (seat_dst over s d v z))).under a b in omega (arith, zero)) was.flow;
                } in
                subst (λ y. RelAt y q v n) (sym e.0) (subst (λ y. RelAt a y v n) (sym e.1) (rel_here v n grown))
            | inr never ↦ rel_else p q never v n old.rel
          ];
          fresh_source = λ z y lt. sent_away (not_s z) p y ∙ old.fresh_source z y lt;
          fresh_end = λ z y lt. let was = old.fresh_end z y lt in (del_away (not_d z) y q ∙ was.0, ack_away (not_d z) y q ∙ was.1);
        }

    -- an end that moves holds no boot of itself above its last one
    own_source : u ≡ s → a ≤ (numbers_at w.keys s).boot
    own_source z = subst (λ (v : NodeId). held_boot m.node.parts.lives v ≤ (numbers_at w.keys v).boot) z (low u m.node m.is_there)

    own_end : u ≡ d → b ≤ (numbers_at w.keys d).boot
    own_end z = subst (λ (v : NodeId). held_boot m.node.parts.lives v ≤ (numbers_at w.keys v).boot) z (low u m.node m.is_there)

    cases_node : (v : NodeId) → (u ≡ v) ⊎ (u ≡ v → ⊥)
    cases_node v = elim (cases_eq u.0 v.0) [ inl e ↦ inl (same_node u v e) | inr e ↦ inr (λ z. e (ap (λ (y : NodeId). y.0) z)) ]

    keys_are : (v : NodeId) → (numbers_at new.keys v).boot ≡ (numbers_at w.keys v).boot
    keys_are v = ap (λ (y : World). (numbers_at y.keys v).boot) m.world

    pub moved_on : FlowsHold kind arts x s d es2 js2 past2 new
    moved_on = record {
      nodes = λ v n there.
          elim (node_put v u m.after n w.nodes me (subst (λ (y : World). node_in y.nodes v ≡ Some n) m.world there)) [
            | inl here ↦ subst (NodeAt kind arts C s d es2 js2 past2 v) (sym here.1)
                (subst (λ (y : NodeId). NodeAt kind arts C s d es2 js2 past2 y m.after) (sym here.0) mover)
            | inr other ↦ others v n other.0 (h.nodes v n other.1)
          ];
      prefix = λ k p q. elim (same_boots p q a b) [
        | inl e ↦
            subst (λ y. IsPrefix (delivered_under kind past2 s y d q) (sent_under kind past2 s y d q)) (sym e.0)
            (subst (λ y. IsPrefix (delivered_under kind past2 s a d y) (sent_under kind past2 s a d y)) (sym e.1)
            (subst (λ X. IsPrefix X (sent_under kind past2 s a d b)) (sym del_here) (subst (λ Y. IsPrefix (DF a b ++ E) Y) (sym sent_here) (st.prefix k))))
        | inr never ↦ subst (λ X. IsPrefix X (sent_under kind past2 s p d q)) (sym (del_else p q never))
            (subst (λ Y. IsPrefix (DF p q) Y) (sym (sent_else p q never)) (h.prefix k p q))
      ];
      low = λ p q. elim (same_boots p q a b) [
        | inl e ↦
            subst (λ y. acknowledged_under kind arts es2 js2 s y d q ≤ length (delivered_under kind past2 s y d q)) (sym e.0)
            (subst (λ y. acknowledged_under kind arts es2 js2 s a d y ≤ length (delivered_under kind past2 s a d y)) (sym e.1)
            (let now = st.low in let more = ack_is a b in let far : length (delivered_under kind past2 s a d b) ≡ length (DF a b ++ E) = ap length del_here in
            omega (arith, now, more, far)))
        | inr never ↦
            let was = h.low p q in
            let same = ack_else p q never in
            let far : length (delivered_under kind past2 s p d q) ≡ length (DF p q) = ap length (del_else p q never) in
            omega (arith, was, same, far)
      ];
      numbers = λ k p q. elim (same_boots p q a b) [
        | inl e ↦
            subst (λ y. AreNumbered 0 (sent_under kind past2 s y d q)) (sym e.0) (subst (λ y. AreNumbered 0 (sent_under kind past2 s a d y)) (sym e.1)
            (subst (AreNumbered 0) (sym sent_here)
            (numbered_both 0 (SF a b) T (h.numbers k a b) (subst (λ l. AreNumbered l T) (let z : length (SF a b) ≡ 0 + length (SF a b) = omega arith in z)
            (st.numbers k)))))
        | inr never ↦ subst (AreNumbered 0) (sym (sent_else p q never)) (h.numbers k p q)
      ];
      messages = λ k o is good said among.
          elim (among_or (arts.spell o) (signed es js s) (cond (u.0 == s.0) (flat_map signed_by effects) [])
          (subst (λ xs. is_among (arts.spell o) xs ≡ true) (signed_is s) among)) [
            | inl old ↦
                let p = (boots_said o).0 in
                let q = (boots_said o).1 in
                subst (λ X. IsIn X (number_said o) (payload_of o)) (sym (sent_is p q))
                (in_more (SF p q) (cond (holds m.node s p d q) T []) (number_said o) (payload_of o) (h.messages k o is good said old))
            | inr now ↦ elim (cases_Bool (u.0 == s.0)) [
              | inl t ↦
                  let got = st.messages k (same_node u s (eqb-true _ _ t)) o is good said (rw t at now) in
                  subst (λ (y : ℕ × ℕ). IsIn (sent_under kind past2 s y.0 d y.1) (number_said o) (payload_of o)) (sym got.0)
                  (subst (λ X. IsIn X (number_said o) (payload_of o)) (sym sent_here) got.1)
              | inr t ↦ absurd (let f : false ≡ true = rw t at now in cc)
            ]
          ];
      unborn_source = λ p q lt.
          let born : (numbers_at w.keys s).boot < p = let same = keys_are s in omega (arith, same, lt) in
          elim (cases_node s) [
            | inl z ↦ sent_else p q (λ e. let most = own_source z in let f = e.0 in absurd (omega (arith, most, f, born))) ∙ h.unborn_source p q born
            | inr z ↦ sent_away z p q ∙ h.unborn_source p q born
          ];
      unborn_end = λ p q lt.
          let born : (numbers_at w.keys d).boot < q = let same = keys_are d in omega (arith, same, lt) in
          let was = h.unborn_end p q born in
          elim (cases_node d) [
            | inl z ↦
                let never : (p ≡ a) × (q ≡ b) → ⊥ = λ e. let most = own_end z in let f = e.1 in absurd (omega (arith, most, f, born)) in
                (del_else p q never ∙ was.0, ack_else p q never ∙ was.1)
            | inr z ↦ (del_away z p q ∙ was.0, ack_away z p q ∙ was.1)
          ];
    }
