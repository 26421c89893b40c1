-- In a run without epochs all held boots are 0, so what is said under them is said of all that was sent, delivered and acknowledged.
use Rattle.std.proofs.Common.{◌≡◌, ◌≤◌, ℕ, true, false, cond, List, [], ◌∷◌, length, Some, refl, sym, ap, subst, ◌∙◌, inl, inr, arith}
use Rattle.std.specs.Prelude.{◌==◌, IsTrue}
use Rattle.std.specs.List.{flat_map, zip}
use Rattle.sp_base.specs.Lists.{IsPrefix}
use Rattle.sp_base.specs.declared.id.NodeId.{NodeId}
use Rattle.sp_msg.specs.Bodies.{payload_of}
use Rattle.sp_msg.specs.declared.body.Body.{Body}
use Rattle.sp_rules.specs.Arts.{Arts}
use Rattle.sp_rules.specs.Flow.{FlowState, boots_said, number_said}
use Rattle.sp_rules.specs.declared.kflow.FlowKind.{FlowKind}
use Rattle.sp_rules.specs.Lives.{held_boot}
use Rattle.sp_rules.specs.Node.{NodeState}
use Rattle.sp_rules.specs.Window.{greatest}
use Rattle.sp_runs.specs.Inputs.{acting}
use Rattle.sp_runs.specs.Runs.{Clean, Lives, Moves, Starts, Stays, Turned, Turn}
use Rattle.sp_runs.specs.Settings.{Setting, StaysUp, is_correct, is_node}
use Rattle.sp_runs.specs.Told.{Message, accepted_in, delivered, delivered_by, sent, signed, signed_by, told_at}
use Rattle.sp_runs.specs.Worlds.{World, node_in}
use Rattle.sp_journal.specs.declared.entry.Entry.{Entry}
use Rattle.sp_schedule_events.specs.declared.event.Event.{Event}
use Rattle.sp_schedule_events.specs.declared.event.Event.TheVariants as events
use Rattle.laws_runs.specs.Acknowledged.{acknowledged, acks_in}
use Rattle.laws_runs.specs.Flows.{AreNumbered, AreSent, FlowsAreKept, IsIn, IsVouchedFor, flow_at}
use Rattle.laws_runs.specs.LifeFlows.{IsVouchedUnder, LifeFlowClaims, acknowledged_under, acks_under}
use Rattle.laws_runs.specs.Past.{Happened, delivered_under, past, sent_under, told_under}
use Rattle.laws_runs.specs.Premises.{Carries}
use Rattle.laws_runs.specs.Unborn.{HoldNone}
use Rattle.laws_runs.proofs.FlowAcks.{acks_both, under_both}
use Rattle.laws_runs.proofs.Flows.{no_send}
use Rattle.laws_runs.proofs.FlowRuns.{TurnIs, flows_are_kept_over_lives, flows_hold, step_of, turn_is}
use Rattle.laws_runs.proofs.Lists.{both, here_is, none_either, told_more}
use Rattle.laws_runs.proofs.PastFacts.{holds_no_other, past_is_plain, same_boots, told_plain}
use Rattle.laws_runs.proofs.Signed.{signs, signs_ready}
use Rattle.laws_runs.proofs.Started.{of_craft}

-- ---- what was told, and under boots 0

none_told : (tells : Event × Entry → List Message) → ((p : Event × Entry) → tells p ≡ []) → (ps : List (Event × Entry)) → flat_map tells ps ≡ []
none_told tells none [] = refl
none_told tells none (p ∷ ps) = rw (none p) (none_told tells none ps)

module _ (kind : FlowKind) (arts : Arts) (x : Setting) (s d : NodeId) (fits : StaysUp arts x) (reads : Carries x.topology.format arts) where
  sent_plain : (es : List Event) (js : List Entry) (w : World) (run : Clean arts x es js w)
      → sent_under kind (past arts x es js w run) s 0 d 0 ≡ sent kind es js s d
  sent_plain es js w run =
      past_is_plain (λ h. told_under s 0 d 0 (accepted_in kind s d h.event h.entry.reply) h.mover) (λ p. accepted_in kind s d p.0 p.1.reply)
      (λ e j n none. told_plain s d (accepted_in kind s d e j.reply) n none)
      (λ y old new e j spends. sym
      (of_craft (λ f. accepted_in kind s d f j.reply ≡ []) (λ c v key object. no_send kind s d (events.Craft c v key object) j.reply tt)
      (λ c v key version weights. no_send kind s d (events.CraftDocument c v key version weights) j.reply tt) spends.key e spends.is_craft))
      arts x es js w fits reads run

  delivered_plain : (es : List Event) (js : List Entry) (w : World) (run : Clean arts x es js w)
      → delivered_under kind (past arts x es js w run) s 0 d 0 ≡ delivered kind es js s d
  delivered_plain es js w run =
      past_is_plain (λ h. told_under s 0 d 0 (told_at d (delivered_by kind s) (h.event, h.entry)) h.mover) (told_at d (delivered_by kind s))
      (λ e j n none. told_plain s d (told_at d (delivered_by kind s) (e, j)) n none)
      (λ y old new e j spends. sym (here_is d (delivered_by kind s) e j [] spends.effects ∙ none_either ((acting e).0 == d.0)))
      arts x es js w fits reads run

  -- and under no other boots
  none_sent : (es : List Event) (js : List Entry) (w : World) (run : Clean arts x es js w) (a b : ℕ) → ((a ≡ 0) × (b ≡ 0) → ⊥)
      → sent_under kind (past arts x es js w run) s a d b ≡ []
  none_sent es js w run a b never =
      past_is_plain (λ h. told_under s a d b (accepted_in kind s d h.event h.entry.reply) h.mover) (λ p. [])
      (λ e j n none. ap (λ t. cond t (accepted_in kind s d e j.reply) []) (holds_no_other n s d a b (λ z. never (z.0 ∙ none s, z.1 ∙ none d))))
      (λ y old new e j spends. refl) arts x es js w fits reads run
      ∙ none_told (λ p. []) (λ p. refl) (zip es js)

  -- what d acknowledged names the boots that it holds
  module _ (from : is_node x s ≡ true) (to : is_node x d ≡ true) (correct : IsTrue (is_correct x d)) (different : s ≡ d → ⊥) where
    acked_now : (es : List Event) (js : List Entry) (old : World) (e : Event) (j : Entry) (new : World) (run : Clean arts x es js old)
        → (t : TurnIs arts x es js old e j new) (turn : Turn arts x old e j new) → t.turn ≡ turn
        → greatest (acks_in kind arts s d (told_at d signed_by (e, j))) ≡ greatest (acks_under kind arts s 0 d 0 (told_at d signed_by (e, j)))
    acked_now es js old e j new run t (Moves m) is =
        let n = m.node in
        let none : HoldNone n.parts.lives = (((signs_ready arts x es js old e t.keys t.signs).nodes (acting e) n m.is_there).plain fits.plain).unborn.lives in
        let st = step_of kind arts x es js old e j new m t is s d correct different (past arts x es js old run)
        (flows_hold kind arts x es js old fits.fits reads run s d from to correct different) in
        let told = here_is d signed_by e j m.output.effects m.journal.effects in
        let messages = cond ((acting e).0 == d.0) (flat_map signed_by m.output.effects) [] in
        ap (λ xs. greatest (acks_in kind arts s d xs)) told ∙ st.ever
        ∙ ap (λ p. greatest (acks_under kind arts s p d (held_boot n.parts.lives d) messages)) (none s)
        ∙ ap (λ q. greatest (acks_under kind arts s 0 d q messages)) (none d) ∙ sym (ap (λ xs. greatest (acks_under kind arts s 0 d 0 xs)) told)
    acked_now es js old e j new run t (Stays spends) is =
        let nothing : told_at d signed_by (e, j) ≡ [] = here_is d signed_by e j [] spends.effects ∙ none_either ((acting e).0 == d.0) in
        ap (λ xs. greatest (acks_in kind arts s d xs)) nothing ∙ sym (ap (λ xs. greatest (acks_under kind arts s 0 d 0 xs)) nothing)
    acked_now es js old e j new run t (Lives on life) is = absurd (let wrong : false ≡ true = sym fits.plain ∙ on in cc)

    acked_plain : (es : List Event) (js : List Entry) (w : World) → Clean arts x es js w
        → acknowledged_under kind arts es js s 0 d 0 ≡ acknowledged kind arts es js s d
    acked_plain es js w Starts = refl
    acked_plain es js w (Turned {es = es'} {js = js'} {old = old} {e = e} {j = j} run range turn unforged) =
        let t = turn_is arts x es' js' old e j w fits.fits reads run range turn unforged in
        let now = acked_now es' js' old e j w run t turn refl in
        let was = acked_plain es' js' old run in
        let more = told_more (told_at d signed_by) es' js' e j t.signs.entries in
        let all = ap (λ xs. greatest (acks_in kind arts s d xs)) more ∙ acks_both kind arts s d (signed es' js' d) (told_at d signed_by (e, j)) in
        let under = ap (λ xs. greatest (acks_under kind arts s 0 d 0 xs)) more ∙ under_both kind arts s 0 d 0 (signed es' js' d) (told_at d signed_by (e, j)) in
        omega (arith, all, under, was, now)

-- ---- the claims

-- what is said under the boots of a node that holds none
at_none : {X : Type 0} (s d : NodeId) (n : NodeState) (says : ℕ → ℕ → X) → HoldNone n.parts.lives
    → says (held_boot n.parts.lives s) (held_boot n.parts.lives d) ≡ says 0 0
at_none s d n says none = ap (λ a. says a (held_boot n.parts.lives d)) (none s) ∙ ap (says 0) (none d)

plain_vouched : (kind : FlowKind) (arts : Arts) (s d : NodeId) (es : List Event) (js : List Entry) (f : FlowState) → IsVouchedUnder kind arts s d es js f 0 0
    → IsVouchedFor kind arts s d es js f
plain_vouched kind arts s d es js f v = record { ack = v.ack; kept = v.kept; body = v.body; signed = v.signed }

pub flows_are_kept : FlowsAreKept
flows_are_kept kind arts x es js w fits reads run s d from correct different = record {
  base = λ u n at. subst (λ (k : ℕ). (flow_at kind n s d).at.base ≤ k) (acked_at n (none u n at)) (c.base u n at);
  base_at_end = λ n at free. c.base_at_end n at free ∙ acked_at n (none d n at);
  acknowledged =
      let all = c.acknowledged 0 0 in
      let same = all_acked in
      let far : length (delivered_under kind happened s 0 d 0) ≡ length (delivered kind es js s d) = ap length all_delivered in
      omega (arith, all, same, far);
  vouched = λ u n at some.
      plain_vouched kind arts s d es js (flow_at kind n s d)
      (subst (λ b. IsVouchedUnder kind arts s d es js (flow_at kind n s d) 0 b) (none u n at d)
      (subst (λ a. IsVouchedUnder kind arts s d es js (flow_at kind n s d) a (held_boot n.parts.lives d)) (none u n at s) (c.vouched u n at some)));
  have_at_end = λ n at free. c.have_at_end n at free ∙ ap length (at_none s d n (λ a b. delivered_under kind happened s a d b) (none d n at) ∙ all_delivered);
  have = λ k u n at. subst (λ (X : List Message). (flow_at kind n s d).at.have ≤ length X) (sent_at n (none u n at)) (c.have k u n at);
  have_at_source = λ k n at free. c.have_at_source k n at free ∙ ap length (sent_at n (none s n at));
  lists = λ k u n at. subst (λ (X : List Message). AreSent X (flow_at kind n s d).at.base (flow_at kind n s d).at.list) (sent_at n (none u n at))
      (c.lists k u n at);
  messages = λ k m is good said among. named m (c.messages k m is good said among);
  prefix = λ k. subst (λ (X : List Message). IsPrefix X (sent kind es js s d)) all_delivered
      (subst (λ (Y : List Message). IsPrefix (delivered_under kind happened s 0 d 0) Y) all_sent (c.prefix k 0 0));
  numbered = λ k. subst (AreNumbered 0) all_delivered (c.numbered k 0 0);
  sent_numbered = λ k. subst (AreNumbered 0) all_sent (c.sent_numbered k 0 0);
}
  where
    happened : List Happened
    happened = past arts x es js w run

    c : LifeFlowClaims kind arts x s d es js (past arts x es js w run) w
    c = flows_are_kept_over_lives kind arts x es js w fits.fits reads run s d from correct different

    all_sent : sent_under kind (past arts x es js w run) s 0 d 0 ≡ sent kind es js s d
    all_sent = sent_plain kind arts x s d fits reads es js w run

    all_delivered : delivered_under kind (past arts x es js w run) s 0 d 0 ≡ delivered kind es js s d
    all_delivered = delivered_plain kind arts x s d fits reads es js w run

    all_acked : acknowledged_under kind arts es js s 0 d 0 ≡ acknowledged kind arts es js s d
    all_acked = acked_plain kind arts x s d fits reads from (both (is_node x d) _ correct).0 correct different es js w run

    none : (u : NodeId) (n : NodeState) → node_in w.nodes u ≡ Some n → HoldNone n.parts.lives
    none u n at = (((signs arts x es js w fits.fits reads run).nodes u n at).plain fits.plain).unborn.lives

    sent_at : (n : NodeState) → HoldNone n.parts.lives
        → sent_under kind (past arts x es js w run) s (held_boot n.parts.lives s) d (held_boot n.parts.lives d) ≡ sent kind es js s d
    sent_at n zero = at_none s d n (λ a b. sent_under kind (past arts x es js w run) s a d b) zero ∙ all_sent

    acked_at : (n : NodeState) → HoldNone n.parts.lives
        → acknowledged_under kind arts es js s (held_boot n.parts.lives s) d (held_boot n.parts.lives d) ≡ acknowledged kind arts es js s d
    acked_at n zero = at_none s d n (λ a b. acknowledged_under kind arts es js s a d b) zero ∙ all_acked

    -- what was sent names no boots
    named : (m : Body) → IsIn (sent_under kind (past arts x es js w run) s (boots_said m).0 d (boots_said m).1) (number_said m) (payload_of m)
        → IsIn (sent kind es js s d) (number_said m) (payload_of m)
    named m is = elim (same_boots (boots_said m).0 (boots_said m).1 0 0) [
      | inl z ↦
          subst (λ (X : List Message). IsIn X (number_said m) (payload_of m))
          (ap (λ a. sent_under kind (past arts x es js w run) s a d (boots_said m).1) z.0
          ∙ ap (λ b. sent_under kind (past arts x es js w run) s 0 d b) z.1 ∙ all_sent) is
      | inr never ↦ absurd (nowhere (number_said m) (payload_of m) (subst (λ (X : List Message). IsIn X (number_said m) (payload_of m))
          (none_sent kind arts x s d fits reads es js w run (boots_said m).0 (boots_said m).1 never) is))
    ]
      where
        nowhere : (q : ℕ) (p : List ℕ) → IsIn [] q p → ⊥
        nowhere q p is = let f = is.there in cc
