-- The part on priority messages where a node moves: the numbers that were told under the boots that d holds are seen there, also after one of them rose.
use Rattle.std.proofs.Common.{◌≡◌, ◌<◌, ℕ, ◌==◌, Bool, true, false, cond, List, [], ◌∷◌, ◌++◌, map, Some, None, refl, sym, ap, subst, ◌∙◌, inl, inr, arith}
use Rattle.std.specs.Prelude.{◌⊎◌, IsTrue}
use Rattle.std.specs.List.{All, Contains, flat_map}
use Rattle.std.proofs.lemmas.Bool.{cases_Bool, cases_eq, eq-eqb, eqb-true, ne_eqb}
use Rattle.std.proofs.lemmas.List.{append-nil, map-append}
use Rattle.std.proofs.lemmas.List.Elements.{All-append, All-weaker, Contains-append_left, Contains-append_right}
use Rattle.sp_base.specs.declared.id.NodeId.{NodeId}
use Rattle.sp_epoch.specs.Numbers.{numbers_at}
use Rattle.sp_keystate.specs.declared.numbers.Numbers.{Numbers}
use Rattle.sp_msg.specs.Views.{signer_of}
use Rattle.sp_msg.specs.declared.body.Body.TheVariants as bodies
use Rattle.sp_msg.specs.declared.body.Prio.{Prio}
use Rattle.sp_msg.specs.declared.kept.Kept.{Kept}
use Rattle.sp_rules.specs.Arts.{Arts}
use Rattle.sp_rules.specs.Lives.{held_boot}
use Rattle.sp_rules.specs.Node.{NodeState}
use Rattle.sp_rules.specs.Parts.{Fixed, Parts}
use Rattle.sp_rules.specs.Sends.{PrioSend, send_prio_refusal}
use Rattle.sp_rules.specs.Steps as steps
use Rattle.sp_rules.specs.Steps.{Input, NodeStep}
use Rattle.laws_node.specs.Inputs.{InputFits}
use Rattle.laws_node.proofs.Epochs.{own_boot_stays}
use Rattle.laws_node.proofs.Spellings.{no_other_is_spelled_so}
use Rattle.sp_runs.specs.Forgery.{forged_object, is_among}
use Rattle.sp_runs.specs.Inputs.{acting, crafted_frame, flipped, input_of, slot_alone, handed_out}
use Rattle.sp_runs.specs.Lives.{ready}
use Rattle.sp_runs.specs.Runs.{Move, next_frame}
use Rattle.sp_runs.specs.Settings.{Setting, SettingFits, is_correct}
use Rattle.sp_runs.specs.Told.{Message, prio_accepted_in, prio_by, signed, signed_by, told_at}
use Rattle.sp_runs.specs.Worlds.{World, node_in}
use Rattle.sp_journal.specs.declared.entry.Entry.{Entry}
use Rattle.sp_schedule_events.specs.Documents.{with_list}
use Rattle.sp_schedule_events.specs.declared.event.Event.{Event}
use Rattle.sp_schedule_events.specs.declared.event.Event.TheVariants as events
use Rattle.laws_runs.specs.HeldBoots.{BootClaims}
use Rattle.laws_runs.specs.Past.{Happened, holds, prio_delivered_under, prio_sent_in, prio_sent_under, told_under}
use Rattle.laws_runs.specs.Premises.{Carries}
use Rattle.laws_runs.specs.Priority.{AreOnce}
use Rattle.laws_runs.specs.Signs.{Good, Known, NodeIs, Signs}
use Rattle.laws_runs.proofs.FlowFacts.{flow_of}
use Rattle.laws_runs.proofs.Flows.{came_bytes, crafted_bytes, new_both}
use Rattle.laws_runs.proofs.Goods.{new_known}
use Rattle.laws_runs.proofs.Lists.{among_or, told_more}
use Rattle.laws_runs.proofs.Lives.{step_stays}
use Rattle.laws_runs.proofs.PastFacts.{holds_no_other, holds_own, past_more, same_boots}
use Rattle.laws_runs.proofs.PrioFacts.{PrioIs, prio_numbers}
use Rattle.laws_runs.proofs.PrioPieces.{Next_life, PrioCame, PrioEnds, Same_life, VouchedPrio}
use Rattle.laws_runs.proofs.PrioSteps.{accepted_is, prio_is_sent, step_came}
use Rattle.laws_runs.proofs.Ready.{ready_boots, readied_parts, was_there}
use Rattle.laws_runs.proofs.SignedEvents.{new_have}
use Rattle.laws_runs.proofs.StepSigns.{IsAskedBy, StepSigns, step_signs, which_signed}
use Rattle.laws_runs.proofs.Tables.{node_is, node_put, same_node}

-- ---- the invariant

abbrev pub numbers : List Message → List ℕ
numbers ms = map (λ (m : Message). m.0) ms

pub record PrioHold (arts : Arts) (x : Setting) (s d : NodeId) (es : List Event) (js : List Entry) (happened : List Happened) (w : World) : Type 0 where
  pub node : (n : NodeState) → node_in w.nodes d ≡ Some n
      → PrioIs s d (numbers (prio_delivered_under happened s (held_boot n.parts.lives s) d (held_boot n.parts.lives d))) n.parts.prio
  pub fresh : (n : NodeState) → node_in w.nodes d ≡ Some n → (a : ℕ) → held_boot n.parts.lives s < a
      → prio_delivered_under happened s a d (held_boot n.parts.lives d) ≡ []
  pub unborn : (a b : ℕ) → (numbers_at w.keys d).boot < b → prio_delivered_under happened s a d b ≡ []
  pub once : (a b : ℕ) → AreOnce (numbers (prio_delivered_under happened s a d b))
  pub authentic : IsTrue (is_correct x s) → (a b : ℕ) → All (Contains (prio_sent_under happened s a d)) (prio_delivered_under happened s a d b)
  pub messages : IsTrue (is_correct x s) → (b : Prio) → IsTrue (arts.is_good (bodies.Prio b)) → b.src ≡ s → b.dst ≡ d
      → is_among (arts.spell (bodies.Prio b)) (signed es js s) ≡ true → Contains (prio_sent_under happened s b.sboot d) (b.seq, b.payload)

-- the world in which a node acts
pub prio_ready : (arts : Arts) (x : Setting) (s d : NodeId) (es : List Event) (js : List Entry) (happened : List Happened) (w : World) (e : Event)
    → PrioHold arts x s d es js happened w → PrioHold arts x s d es js happened (ready x w e)
prio_ready arts x s d es js happened w e h = record {
  node = λ n at.
      let was = was_there x w e d n at in
      subst (λ (p : Parts). PrioIs s d (numbers (prio_delivered_under happened s (held_boot p.lives s) d (held_boot p.lives d))) p.prio)
      (sym (readied_parts x w was.before n was.readied).0) (h.node was.before was.is_there);
  fresh = λ n at.
      let was = was_there x w e d n at in
      subst (λ (p : Parts). (a : ℕ) → held_boot p.lives s < a → prio_delivered_under happened s a d (held_boot p.lives d) ≡ [])
      (sym (readied_parts x w was.before n was.readied).0) (h.fresh was.before was.is_there);
  unborn = λ a b above. h.unborn a b (let same = ready_boots x w e d in omega (arith, same, above));
  once = h.once;
  authentic = h.authentic;
  messages = h.messages;
}

-- ---- what an event sends

data SendsPrio (e : Event) (i : Input) : Type 0 where
  It_sends : (u to : NodeId) (a b p : ℕ) (payload : List ℕ) → e ≡ events.Prio u to a b p payload
      → i ≡ steps.SendPrio (record { dst = to; prio = a; expiry = b; paths = p; payload = payload }) → SendsPrio e i

-- only a client's event asks for a priority message
asked : (i k : Input) (b : Prio) → i ≡ k → IsAskedBy i (bodies.Prio b) → IsAskedBy k (bodies.Prio b)
asked i k b same kind = subst (λ (y : Input). IsAskedBy y (bodies.Prio b)) same kind

brought : (i : Input) (u : NodeId) (b : Prio) → (bytes : List ℕ) × (i ≡ steps.Datagram u bytes) → IsAskedBy i (bodies.Prio b) → ⊥
brought i u b (bytes, same) kind = asked i (steps.Datagram u bytes) b same kind

sends_prio : (arts : Arts) (x : Setting) (w : World) (n : NodeState) (e : Event) (i : Input) (b : Prio) → input_of arts x w n e ≡ Some i
    → IsAskedBy i (bodies.Prio b) → SendsPrio e i
sends_prio arts x w n (events.Prio u to a c p payload) i b reaches kind = It_sends u to a c p payload refl cc
sends_prio arts x w n (events.Rel u to payload) i b reaches kind = absurd (asked i (steps.SendRel to payload) b (cc) kind)
sends_prio arts x w n (events.Krel u to paths payload) i b reaches kind =
    absurd (asked i (steps.SendKrel (record { dst = to; paths = paths; payload = payload })) b (cc) kind)
sends_prio arts x w n (events.Take v u) i b reaches kind = absurd (asked i (steps.TakeRel u) b (cc) kind)
sends_prio arts x w n (events.KTake v u) i b reaches kind = absurd (asked i (steps.TakeKrel u) b (cc) kind)
sends_prio arts x w n (events.TakePrio v) i b reaches kind = absurd (asked i steps.TakePrio b (cc) kind)
sends_prio arts x w n (events.Tick u now) i b reaches kind = absurd (asked i (steps.Tick now) b (cc) kind)
sends_prio arts x w n (events.Weight u v weight) i b reaches kind = absurd (asked i (steps.SetWeight v weight) b (cc) kind)
sends_prio arts x w n (events.Poll u v) i b reaches kind = absurd (asked i (steps.Poll v) b (cc) kind)
sends_prio arts x w n (events.Pass u v k) i b reaches kind = absurd (brought i u b (came_bytes u (λ y. y) _ i reaches) kind)
sends_prio arts x w n (events.Flip u v k back bit) i b reaches kind = absurd (brought i u b (came_bytes u (flipped back bit) _ i reaches) kind)
sends_prio arts x w n (events.Inject u v bytes) i b reaches kind = absurd (asked i (steps.Datagram u bytes) b (cc) kind)
sends_prio arts x w n (events.Craft u v key body) i b reaches kind = absurd (brought i u b (crafted_bytes _ u _ i reaches) kind)
sends_prio arts x w n (events.CraftStatus u v s d base have) i b reaches kind =
    absurd (asked i (steps.Datagram u (crafted_frame arts n u (slot_alone n.parts.lives (flow_of s d) base have None []))) b (cc) kind)
sends_prio arts x w n (events.Publish u weights) i b reaches kind = absurd (asked i (steps.Publish (handed_out x (with_list w.published weights))) b (cc) kind)
sends_prio arts x w n (events.CraftDocument u v key version weights) i b reaches kind = absurd (brought i u b (crafted_bytes _ u _ i reaches) kind)
sends_prio arts x w n (events.Start u) i b reaches kind = absurd cc
sends_prio arts x w n (events.Stop u) i b reaches kind = absurd cc

-- ---- one event more

-- what was sent stays so
all_more : (ms S T : List Message) → All (Contains S) ms → All (Contains (S ++ T)) ms
all_more ms S T h = All-weaker (Contains S) (Contains (S ++ T)) (λ m there. Contains-append_left S T m there) ms h

none_either : (t : Bool) (ms : List Message) → ms ≡ [] → cond t ms [] ≡ []
none_either true ms e = e
none_either false ms e = refl

module _ (arts : Arts) (x : Setting) (s d : NodeId) (fits : SettingFits arts x) (carries : Carries x.topology.format arts) (es : List Event) (js : List Entry)
    (happened : List Happened) (w new : World) (e : Event) (j : Entry) (signs : Signs arts x es js w) (boots : BootClaims arts x es js w)
    (m : Move arts x w e j new)
    (reach : InputFits m.input) (unforged : forged_object arts x es js m.output.answered ≡ None) (h : PrioHold arts x s d es js happened w) where
  abbrev C : Type 0
  C = IsTrue (is_correct x s)

  abbrev u : NodeId
  u = acting e

  abbrev n : NodeState
  n = m.node

  abbrev a : ℕ
  a = held_boot m.node.parts.lives s

  abbrev b : ℕ
  b = held_boot m.node.parts.lives d

  abbrev told_before : ℕ → ℕ → List Message
  told_before p q = prio_delivered_under happened s p d q

  abbrev S : ℕ → List Message
  S p = prio_sent_under happened s p d

  abbrev T : List Message
  T = prio_accepted_in s d e j.reply

  abbrev E : List Message
  E = told_at d (prio_by s) (e, j)

  abbrev happened2 : List Happened
  happened2 = happened ++ record { event = e; entry = j; mover = Some m.node } ∷ []

  abbrev told_after : ℕ → ℕ → List Message
  told_after p q = prio_delivered_under happened2 s p d q

  abbrev P : Kept → Type 0
  P = Good arts x es js

  is : NodeIs x P u n
  is = signs.nodes (acting e) m.node m.is_there

  me : m.node.fixed.me ≡ u
  me = node_is w.nodes (acting e) m.node m.is_there

  there : u ≡ d → node_in w.nodes d ≡ Some n
  there z = subst (λ (v : NodeId). node_in w.nodes v ≡ Some m.node) z m.is_there

  -- ---- what is new was sent

  vouched : (o : Kept) → Known arts x es js o → IsTrue (arts.is_good o.body) → VouchedPrio C s d a (S a) o
  vouched o known good = record {
    message = λ correct c body src dst boot.
        let signer : signer_of o.body ≡ s = ap signer_of body ∙ src in
        let among : is_among (arts.spell o.body) (signed es js (signer_of o.body)) ≡ true = known (subst (λ v. IsTrue (is_correct x v)) (sym signer) correct) in
        let sent = h.messages correct c (subst (λ y. IsTrue (arts.is_good y)) body good) src dst
        (subst (λ y. is_among (arts.spell y) (signed es js s) ≡ true) body
        (subst (λ v. is_among (arts.spell o.body) (signed es js v) ≡ true) signer among)) in
        subst (λ (p : ℕ). Contains (S p) (c.seq, c.payload)) boot sent;
  }

  came : u ≡ d → PrioCame C s d a (S a) (numbers (told_before a b)) m.after.parts.lives m.after.parts.prio m.output.effects
  came z =
      step_came C s d a (S a) (numbers (told_before a b)) arts m.node m.output m.after refl (h.node m.node (there z)) m.input m.step
      (new_both (Known arts x es js) (λ o. IsTrue (arts.is_good o.body)) (VouchedPrio C s d a (S a)) vouched m.output.answered
      (new_known arts x es js m.output.answered unforged)
      (new_have (λ o. IsTrue (arts.is_good o.body)) arts m.node m.input m.output m.after carries.goods reach m.step)) (me ∙ z)

  -- ---- the lists after it

  delivered_is : (p q : ℕ) → told_after p q ≡ told_before p q ++ cond (holds m.node s p d q) E []
  delivered_is p q =
      past_more (λ (y : Happened). told_under s p d q (told_at d (prio_by s) (y.event, y.entry)) y.mover) happened
      (record { event = e; entry = j; mover = Some m.node })

  sent_is : (p : ℕ) → prio_sent_under happened2 s p d ≡ S p ++ cond (a == p) T []
  sent_is p = past_more (λ (y : Happened). prio_sent_in s p d y y.mover) happened (record { event = e; entry = j; mover = Some m.node })

  here_is : u ≡ d → E ≡ flat_map (prio_by s) m.output.effects
  here_is z =
      let t : (u.0 == d.0) ≡ true = eq-eqb u.0 d.0 (ap (λ (v : NodeId). v.0) z) in
      ap (λ es. cond (u.0 == d.0) (flat_map (prio_by s) es) []) m.journal.effects ∙ rw t refl

  away_is : (u ≡ d → ⊥) → E ≡ []
  away_is never = let t : (u.0 == d.0) ≡ false = ne_eqb u.0 d.0 (λ z. never (same_node u d z)) in rw t refl

  told_here : u ≡ d → told_after a b ≡ told_before a b ++ flat_map (prio_by s) m.output.effects
  told_here z = delivered_is a b ∙ ap (λ t. told_before a b ++ cond t E []) (holds_own m.node s d) ∙ ap (λ t. told_before a b ++ t) (here_is z)

  told_else : (p q : ℕ) → ((p ≡ a) × (q ≡ b) → ⊥) → told_after p q ≡ told_before p q
  told_else p q never = delivered_is p q ∙ ap (λ t. told_before p q ++ cond t E []) (holds_no_other m.node s d p q never) ∙ append-nil (told_before p q)

  told_away : (u ≡ d → ⊥) → (p q : ℕ) → told_after p q ≡ told_before p q
  told_away never p q = delivered_is p q ∙ ap (λ t. told_before p q ++ t) (none_either (holds m.node s p d q) E (away_is never)) ∙ append-nil (told_before p q)

  numbers_here : u ≡ d → numbers (told_after a b) ≡ numbers (told_before a b) ++ prio_numbers s m.output.effects
  numbers_here z = ap numbers (told_here z) ∙ map-append (λ (y : Message). y.0) (told_before a b) (flat_map (prio_by s) m.output.effects)

  cases_u : (u ≡ d) ⊎ (u ≡ d → ⊥)
  cases_u = elim (cases_eq u.0 d.0) [
    | inl z ↦ inl (same_node u d z)
    | inr never ↦ inr (λ z. never (ap (λ (v : NodeId). v.0) z))
  ]

  -- ---- d itself acted

  record Told_on : Type 0 where
    at : PrioIs s d (numbers (told_after (held_boot m.after.parts.lives s) (held_boot m.after.parts.lives d))) m.after.parts.prio
    fresh : (p : ℕ) → held_boot m.after.parts.lives s < p → told_after p (held_boot m.after.parts.lives d) ≡ []

  own_same : u ≡ d → held_boot m.after.parts.lives d ≡ b
  own_same z =
      subst (λ (v : NodeId). held_boot m.after.parts.lives v ≡ held_boot m.node.parts.lives v) (me ∙ z)
      (own_boot_stays arts m.node m.input m.output m.after m.step)

  told_on : u ≡ d → Told_on
  told_on z = go (came z).ends
    where
      go : PrioEnds s d a (numbers (told_before a b) ++ prio_numbers s m.output.effects) m.after.parts.lives m.after.parts.prio → Told_on
      go (Same_life same r) = record {
        at = subst (λ q. PrioIs s d (numbers (told_after (held_boot m.after.parts.lives s) q)) m.after.parts.prio) (sym (own_same z))
            (subst (λ p. PrioIs s d (numbers (told_after p b)) m.after.parts.prio) (sym same)
            (subst (λ ns. PrioIs s d ns m.after.parts.prio) (sym (numbers_here z)) r));
        fresh = λ p up. subst (λ q. told_after p q ≡ []) (sym (own_same z))
            (let above : a < p = omega (arith, same, up) in told_else p b (λ y. let f = y.0 in absurd (omega (arith, above, f)))
            ∙ h.fresh m.node (there z) p above);
      }
      go (Next_life rose r) = record {
        at = subst (λ q. PrioIs s d (numbers (told_after (held_boot m.after.parts.lives s) q)) m.after.parts.prio) (sym (own_same z))
            (let none = told_else (held_boot m.after.parts.lives s) b (λ y. let f = y.0 in absurd (omega (arith, rose, f)))
            ∙ h.fresh m.node (there z) (held_boot m.after.parts.lives s) rose in
            subst (λ (ms : List Message). PrioIs s d (numbers ms) m.after.parts.prio) (sym none) r);
        fresh = λ p up. subst (λ q. told_after p q ≡ []) (sym (own_same z))
            (let above : a < p = omega (arith, rose, up) in told_else p b (λ y. let f = y.0 in absurd (omega (arith, above, f)))
            ∙ h.fresh m.node (there z) p above);
      }

  -- ---- what s signed

  signed_now : u ≡ s → (c : Prio) → IsTrue (arts.is_good (bodies.Prio c)) → c.dst ≡ d
      → is_among (arts.spell (bodies.Prio c)) (flat_map signed_by m.output.effects) ≡ true → (a ≡ c.sboot) × Contains T (c.seq, c.payload)
  signed_now z c good dst among = go (step_signs arts x P fits u m.node m.output m.after is m.input reach m.step)
    where
      send : SendsPrio e m.input → (a ≡ c.sboot) × Contains T (c.seq, c.payload)
      send (It_sends v to prio expiry paths payload event input) =
          let ask : PrioSend = record { dst = to; prio = prio; expiry = expiry; paths = paths; payload = payload } in
          let moves : NodeStep arts m.node (steps.SendPrio ask) m.output m.after = subst
          (λ (i : Input). NodeStep arts m.node i m.output m.after) input m.step in
          let from : v ≡ s = sym (ap acting event) ∙ z in
          let done = prio_is_sent arts x P carries.bodies fits s d m.node ask m.output m.after moves (subst InputFits input reach)
          (subst (λ (y : NodeId). NodeIs x P y m.node) z is) c good dst among in
          let told = accepted_is x arts s d s (next_frame w e) ask m.node moves.choice m.output j
          (send_prio_refusal m.node ask moves.choice) m.journal moves.output_is in
          let here : T ≡ prio_accepted_in s d (events.Prio s to prio expiry paths payload) j.reply =
          ap (λ (y : Event). prio_accepted_in s d y j.reply) event
          ∙ ap (λ (y : NodeId). prio_accepted_in s d (events.Prio y to prio expiry paths payload) j.reply) from in
          (done.0, subst (λ (ms : List Message). Contains ms (c.seq, c.payload)) (sym (here ∙ told)) done.1)

      go : StepSigns arts m.input m.output.effects → (a ≡ c.sboot) × Contains T (c.seq, c.payload)
      go s =
          let it = which_signed arts m.input m.output.effects (arts.spell (bodies.Prio c)) s among in
          let body_is : it.body ≡ bodies.Prio c = no_other_is_spelled_so arts carries.bodies it.body (bodies.Prio c) it.said.good good it.is in
          send (sends_prio arts x w m.node e m.input c m.reaches (subst (IsAskedBy m.input) body_is it.said.asked))

  signed_is : (bytes : List ℕ) → is_among bytes (signed (es ++ e ∷ []) (js ++ j ∷ []) s) ≡ true
      → (is_among bytes (signed es js s) ≡ true) ⊎ ((u ≡ s) × (is_among bytes (flat_map signed_by m.output.effects) ≡ true))
  signed_is bytes among =
      elim (among_or bytes (signed es js s) (told_at s signed_by (e, j))
      (subst (λ these. is_among bytes these ≡ true) (told_more (told_at s signed_by) es js e j signs.entries) among)) [
        | inl old ↦ inl old
        | inr now ↦ elim (cases_Bool (u.0 == s.0)) [
          | inl t ↦
              let here : is_among bytes (flat_map signed_by j.effects) ≡ true = rw t at now in
              inr (same_node u s (eqb-true u.0 s.0 t), subst (λ es3. is_among bytes (flat_map signed_by es3) ≡ true) m.journal.effects here)
          | inr t ↦ absurd (let f : false ≡ true = rw t at now in cc)
        ]
      ]

  -- ---- all of it

  after_me : m.after.fixed.me ≡ u
  after_me = ap (λ (f : Fixed). f.me) (step_stays arts m.node m.input m.output m.after m.step).fixed ∙ me

  found : (k : NodeState) → node_in new.nodes d ≡ Some k → ((d ≡ u) × (k ≡ m.after)) ⊎ ((d ≡ u → ⊥) × (node_in w.nodes d ≡ Some k))
  found k at = node_put d u m.after k w.nodes after_me (subst (λ (y : World). node_in y.nodes d ≡ Some k) m.world at)

  all_sent : C → (p q : ℕ) → All (Contains (S p ++ cond (a == p) T [])) (told_after p q)
  all_sent k p q = elim cases_u [
    | inr away ↦ subst (All (Contains (S p ++ cond (a == p) T []))) (sym (told_away away p q))
        (all_more (told_before p q) (S p) (cond (a == p) T []) (h.authentic k p q))
    | inl z ↦ elim (same_boots p q a b) [
      | inr never ↦
          subst (All (Contains (S p ++ cond (a == p) T []))) (sym (told_else p q never))
          (all_more (told_before p q) (S p) (cond (a == p) T []) (h.authentic k p q))
      | inl both ↦
          let here : All (Contains (S a)) (told_after a b) =
          subst (All (Contains (S a))) (sym (told_here z))
          (All-append (Contains (S a)) (told_before a b) (flat_map (prio_by s) m.output.effects) (h.authentic k a b) ((came z).sent k)) in
          subst (λ y. All (Contains (S y ++ cond (a == y) T [])) (told_after y q)) (sym both.0)
          (subst (λ y. All (Contains (S a ++ cond (a == a) T [])) (told_after a y)) (sym both.1) (all_more (told_after a b) (S a) (cond (a == a) T []) here))
    ]
  ]

  pub prio_moved : PrioHold arts x s d (es ++ e ∷ []) (js ++ j ∷ []) happened2 new
  prio_moved = record {
    node = λ k at. elim (found k at) [
      | inl it ↦
          subst (λ (y : NodeState). PrioIs s d (numbers (told_after (held_boot y.parts.lives s) (held_boot y.parts.lives d))) y.parts.prio) (sym it.1)
          (told_on (sym it.0)).at
      | inr other ↦
          subst (λ (ms : List Message). PrioIs s d (numbers ms) k.parts.prio)
          (sym (told_away (λ z. other.0 (sym z)) (held_boot k.parts.lives s) (held_boot k.parts.lives d))) (h.node k other.1)
    ];
    fresh = λ k at p up. elim (found k at) [
      | inl it ↦
          subst (λ (y : NodeState). held_boot y.parts.lives s < p → told_after p (held_boot y.parts.lives d) ≡ []) (sym it.1) ((told_on (sym it.0)).fresh p) up
      | inr other ↦ told_away (λ z. other.0 (sym z)) p (held_boot k.parts.lives d) ∙ h.fresh k other.1 p up
    ];
    unborn = λ p q up.
        let keys : (numbers_at w.keys d).boot < q = subst (λ (ks : List Numbers). (numbers_at ks d).boot < q) (ap (λ (y : World). y.keys) m.world) up in
        elim cases_u [
          | inr away ↦ told_away away p q ∙ h.unborn p q keys
          | inl z ↦
              let born = boots.born d d m.node (there z) (subst (λ (v : NodeId). IsTrue (is_correct x v)) z is.correct) in
              told_else p q (λ both. let f = both.1 in absurd (omega (arith, born, f, keys))) ∙ h.unborn p q keys
        ];
    once = λ p q. elim cases_u [
      | inr away ↦ subst (λ ms. AreOnce (numbers ms)) (sym (told_away away p q)) (h.once p q)
      | inl z ↦ elim (same_boots p q a b) [
        | inr never ↦ subst (λ ms. AreOnce (numbers ms)) (sym (told_else p q never)) (h.once p q)
        | inl both ↦
            subst (λ y. AreOnce (numbers (told_after y q))) (sym both.0)
            (subst (λ y. AreOnce (numbers (told_after a y))) (sym both.1) (subst AreOnce (sym (numbers_here z)) (came z).once))
      ]
    ];
    authentic = λ k p q. subst (λ (ms : List Message). All (Contains ms) (told_after p q)) (sym (sent_is p)) (all_sent k p q);
    messages = λ k c good src dst among. subst (λ (ms : List Message). Contains ms (c.seq, c.payload)) (sym (sent_is c.sboot))
        (elim (signed_is (arts.spell (bodies.Prio c)) among) [
          | inl old ↦ Contains-append_left (S c.sboot) (cond (a == c.sboot) T []) (c.seq, c.payload) (h.messages k c good src dst old)
          | inr now ↦
              let got = signed_now now.0 c good dst now.1 in
              let hit : (a == c.sboot) ≡ true = eq-eqb a c.sboot got.0 in
              Contains-append_right (S c.sboot) (cond (a == c.sboot) T []) (c.seq, c.payload)
              (subst (λ (t : Bool). Contains (cond t T []) (c.seq, c.payload)) (sym hit) got.1)
        ]);
  }
