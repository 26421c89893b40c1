-- The part on flows: in every state of a run without forgery, of each pair of boots of both ends.
use Rattle.std.proofs.Common.{◌≡◌, ◌<◌, ◌≤◌, ℕ, Bool, true, false, cond, List, [], ◌∷◌, length, Option, Some, None, refl, sym, ap, subst, ◌∙◌}
use Rattle.std.specs.Prelude.{IsTrue, option_map}
use Rattle.sp_base.specs.Lists.{IsPrefix}
use Rattle.sp_base.specs.declared.id.Flow.{Flow}
use Rattle.sp_base.specs.declared.id.NodeId.{NodeId}
use Rattle.sp_epoch.specs.Numbers.{numbers_at}
use Rattle.sp_msg.specs.Views.{signer_of}
use Rattle.sp_msg.specs.Bodies.{payload_of}
use Rattle.sp_msg.specs.declared.body.Body.{Body}
use Rattle.sp_msg.specs.declared.body.Body.TheVariants as bodies
use Rattle.sp_msg.specs.declared.effect.Effect.{Effect}
use Rattle.sp_msg.specs.declared.kept.Kept.{Kept}
use Rattle.sp_msg.specs.declared.refused.SendRefused.{SendRefused}
use Rattle.sp_msg.specs.declared.refused.SendRefused.TheVariants as refusals
use Rattle.sp_rules.specs.Arts.{Arts}
use Rattle.sp_rules.specs.Flow.{boots_said, flow_said, number_said}
use Rattle.sp_rules.specs.KflowSends.{KSend, krel_number, krel_sent, send_krel_refusal}
use Rattle.sp_rules.specs.Lives.{held_boot}
use Rattle.sp_rules.specs.Node.{NodeState}
use Rattle.sp_rules.specs.Parts.{flows_of}
use Rattle.sp_rules.specs.declared.kflow.FlowKind.{FlowKind}
use Rattle.sp_rules.specs.declared.kflow.FlowKind.TheVariants.{Plain, Paths}
use Rattle.sp_rules.specs.Sends.{PrioSend, rel_number, rel_refusal, rel_sent}
use Rattle.sp_rules.specs.Steps as steps
use Rattle.sp_rules.specs.Steps.{Input, NodeStep, Output, accepted, refused_send}
use Rattle.sp_rules.specs.declared.answers.Item.{Item}
use Rattle.laws_node.specs.Inputs.{InputFits, ReadsBack}
use Rattle.laws_node.specs.Asked.{NewKeep}
use Rattle.laws_node.specs.Flows.{IsAckOf, IsRelOf}
use Rattle.sp_runs.specs.Forgery.{is_among}
use Rattle.sp_runs.specs.Inputs.{acting, crafted_frame, flipped, input_of, slot_alone, handed_out}
use Rattle.sp_node_words.specs.Words.{refused_word}
use Rattle.sp_runs.specs.Journals.{Says, reply_word}
use Rattle.sp_runs.specs.Settings.{Setting, SettingFits, is_correct}
use Rattle.sp_runs.specs.Told.{Message, accepted_in, signed}
use Rattle.sp_runs.specs.Worlds.{World, node_in}
use Rattle.sp_journal.specs.declared.entry.Entry.{Entry}
use Rattle.sp_journal.specs.declared.entry.Reply.{Reply}
use Rattle.sp_journal.specs.declared.entry.Reply.TheVariants as replies
use Rattle.sp_schedule_events.specs.Documents.{with_list}
use Rattle.sp_schedule_events.specs.declared.event.Event.{Event}
use Rattle.sp_schedule_events.specs.declared.event.Event.TheVariants as events
use Rattle.laws_runs.specs.Flows.{IsIn, AreNumbered}
use Rattle.laws_runs.specs.LifeFlows.{acknowledged_under}
use Rattle.laws_runs.specs.Past.{Happened, delivered_under, sent_under}
use Rattle.laws_runs.specs.Premises.{Carries}
use Rattle.laws_runs.specs.Signs.{Good, Known, NodeIs}
use Rattle.laws_runs.proofs.FlowAcks.{ack_among}
use Rattle.laws_runs.proofs.FlowFacts.{RelIs, flow_of}
use Rattle.laws_runs.proofs.FlowNodes.{Before, StepIs, datagram_done, ktake_done, poll_done, prio_done, publish_done, take_done, takep_done, weight_done}
use Rattle.laws_runs.proofs.FlowTicks.{tick_done}
use Rattle.laws_runs.proofs.FlowSends.{ksend_done, seen, seen_none, send_done, sent_if, sent_now}
use Rattle.laws_runs.proofs.FlowPieces.{Vouched}
use Rattle.laws_runs.proofs.SignedEvents.{new_have}

-- ---- the invariant

-- a node that runs, for the boots that it holds of both ends
pub record NodeAt (kind : FlowKind) (arts : Arts) (C : Type 0) (s d : NodeId) (es : List Event) (js : List Entry) (past : List Happened) (u : NodeId)
    (n : NodeState) : Type 0 where
  pub rel : RelIs C s d (sent_under kind past s (held_boot n.parts.lives s) d (held_boot n.parts.lives d))
      (delivered_under kind past s (held_boot n.parts.lives s) d (held_boot n.parts.lives d))
      (acknowledged_under kind arts es js s (held_boot n.parts.lives s) d (held_boot n.parts.lives d)) u (flows_of kind n.parts)
  -- under boots of the other end that it doesn't hold yet, nothing was sent here, and nothing delivered or acknowledged here
  pub fresh_source : u ≡ s → (y : ℕ) → held_boot n.parts.lives d < y → sent_under kind past s (held_boot n.parts.lives s) d y ≡ []
  pub fresh_end : u ≡ d → (x : ℕ) → held_boot n.parts.lives s < x
      → (delivered_under kind past s x d (held_boot n.parts.lives d) ≡ []) × (acknowledged_under kind arts es js s x d (held_boot n.parts.lives d) ≡ 0)

pub record FlowsHold (kind : FlowKind) (arts : Arts) (x : Setting) (s d : NodeId) (es : List Event) (js : List Entry) (past : List Happened)
    (w : World) : Type 0 where
  pub nodes : (u : NodeId) (n : NodeState) → node_in w.nodes u ≡ Some n → NodeAt kind arts (IsTrue (is_correct x s)) s d es js past u n
  pub prefix : IsTrue (is_correct x s) → (a b : ℕ) → IsPrefix (delivered_under kind past s a d b) (sent_under kind past s a d b)
  pub low : (a b : ℕ) → acknowledged_under kind arts es js s a d b ≤ length (delivered_under kind past s a d b)
  pub numbers : IsTrue (is_correct x s) → (a b : ℕ) → AreNumbered 0 (sent_under kind past s a d b)
  pub messages : IsTrue (is_correct x s) → (m : Body) → IsRelOf kind m → IsTrue (arts.is_good m) → flow_said m ≡ flow_of s d
      → is_among (arts.spell m) (signed es js s) ≡ true → IsIn (sent_under kind past s (boots_said m).0 d (boots_said m).1) (number_said m) (payload_of m)
  -- under boots that weren't taken yet nothing was sent, delivered or acknowledged
  pub unborn_source : (a b : ℕ) → (numbers_at w.keys s).boot < a → sent_under kind past s a d b ≡ []
  pub unborn_end : (a b : ℕ) → (numbers_at w.keys d).boot < b
      → (delivered_under kind past s a d b ≡ []) × (acknowledged_under kind arts es js s a d b ≡ 0)

-- ---- what is new is vouched for

pub new_both : (P Q R : Kept → Type 0) → ((o : Kept) → P o → Q o → R o) → (answered : List (Kept × Item)) → NewKeep P answered → NewKeep Q answered
    → NewKeep R answered
new_both P Q R join [] one two = tt
new_both P Q R join (a ∷ others) one two = (λ new. join a.0 (one.0 new) (two.0 new), new_both P Q R join others one.1 two.1)

-- its source signs a message
pub rel_signer : (kind : FlowKind) (body : Body) → IsRelOf kind body → signer_of body ≡ (flow_said body).src
rel_signer Plain (bodies.Rel m) is = refl
rel_signer Paths (bodies.Krel m) is = refl
rel_signer Plain (bodies.Prio m) is = absurd is
rel_signer Plain (bodies.Ack m) is = absurd is
rel_signer Plain (bodies.Weight m) is = absurd is
rel_signer Plain (bodies.Krel m) is = absurd is
rel_signer Plain (bodies.Kack m) is = absurd is
rel_signer Plain (bodies.Epoch m) is = absurd is
rel_signer Paths (bodies.Prio m) is = absurd is
rel_signer Paths (bodies.Rel m) is = absurd is
rel_signer Paths (bodies.Ack m) is = absurd is
rel_signer Paths (bodies.Weight m) is = absurd is
rel_signer Paths (bodies.Kack m) is = absurd is
rel_signer Paths (bodies.Epoch m) is = absurd is

-- and its destination an acknowledgement
pub ack_signed_by : (kind : FlowKind) (flow : Flow) (body : Body) → IsAckOf kind flow body → signer_of body ≡ flow.dst
ack_signed_by Plain flow (bodies.Ack a) is = is.1
ack_signed_by Paths flow (bodies.Kack a) is = is.1
ack_signed_by Plain flow (bodies.Prio m) is = absurd is
ack_signed_by Plain flow (bodies.Rel m) is = absurd is
ack_signed_by Plain flow (bodies.Weight m) is = absurd is
ack_signed_by Plain flow (bodies.Krel m) is = absurd is
ack_signed_by Plain flow (bodies.Kack m) is = absurd is
ack_signed_by Plain flow (bodies.Epoch m) is = absurd is
ack_signed_by Paths flow (bodies.Prio m) is = absurd is
ack_signed_by Paths flow (bodies.Rel m) is = absurd is
ack_signed_by Paths flow (bodies.Ack m) is = absurd is
ack_signed_by Paths flow (bodies.Weight m) is = absurd is
ack_signed_by Paths flow (bodies.Krel m) is = absurd is
ack_signed_by Paths flow (bodies.Epoch m) is = absurd is

vouched : (kind : FlowKind) (arts : Arts) → ReadsBack arts → (x : Setting) (s d : NodeId) (es : List Event) (js : List Entry) (past : List Happened) (w : World)
    (bs bd : ℕ) → IsTrue (is_correct x d) → FlowsHold kind arts x s d es js past w → (o : Kept) → Known arts x es js o → IsTrue (arts.is_good o.body)
    → Vouched kind (IsTrue (is_correct x s)) s d bs bd (sent_under kind past s bs d bd) (acknowledged_under kind arts es js s bs d bd) o
vouched kind arts reads x s d es js past w bs bd d_correct h o known good = record {
  message = λ correct is said boots.
      let signer : signer_of o.body ≡ s = rel_signer kind o.body is ∙ ap (λ (f : Flow). f.src) said in
      let among : is_among (arts.spell o.body) (signed es js (signer_of o.body)) ≡ true = known (subst (λ v. IsTrue (is_correct x v)) (sym signer) correct) in
      let there = h.messages correct o.body is good said (subst (λ v. is_among (arts.spell o.body) (signed es js v) ≡ true) signer among) in
      subst (λ (b : ℕ × ℕ). IsIn (sent_under kind past s b.0 d b.1) (number_said o.body) (payload_of o.body)) boots there;
  ack = λ is boots.
      let signer : signer_of o.body ≡ d = ack_signed_by kind (flow_of s d) o.body is in
      let among : is_among (arts.spell o.body) (signed es js (signer_of o.body)) ≡ true = known (subst (λ v. IsTrue (is_correct x v)) (sym signer) d_correct) in
      ack_among kind arts reads s d bs bd o.body (signed es js d) good is boots
      (subst (λ v. is_among (arts.spell o.body) (signed es js v) ≡ true) signer among);
}

-- ---- one event

-- what a step tells of a client's message
-- what is read of a reply says nothing where it refuses
record SaysRefusals (sends : Reply → List Message) : Type 0 where
  full : (base have : ℕ) → sends (replies.Full base have) ≡ []
  expired : (now : ℕ) → sends (replies.Expired now) ≡ []
  paths : (found : ℕ) → sends (replies.NoPaths found) ≡ []
  low : (least : ℕ) → sends (replies.Low least) ≡ []
  spent : (index : ℕ) → sends (replies.Spent index) ≡ []
  busy : (other : ℕ) → sends (replies.Busy other) ≡ []
  end : sends replies.BadEnd ≡ []

not_accepted : (sends : Reply → List Message) → SaysRefusals sends → (refused : SendRefused) (reply : Reply) → refused_word refused ≡ Some reply
    → sends reply ≡ []
not_accepted sends none (refusals.Full base have) reply e =
    let is : replies.Full base have ≡ reply = cc in subst (λ r. sends r ≡ []) is (none.full base have)
not_accepted sends none (refusals.Expired now) reply e = let is : replies.Expired now ≡ reply = cc in subst (λ r. sends r ≡ []) is (none.expired now)
not_accepted sends none (refusals.NoPaths found) reply e = let is : replies.NoPaths found ≡ reply = cc in subst (λ r. sends r ≡ []) is (none.paths found)
not_accepted sends none (refusals.Low least) reply e = let is : replies.Low least ≡ reply = cc in subst (λ r. sends r ≡ []) is (none.low least)
not_accepted sends none (refusals.Spent index) reply e = let is : replies.Spent index ≡ reply = cc in subst (λ r. sends r ≡ []) is (none.spent index)
not_accepted sends none (refusals.Busy other) reply e = let is : replies.Busy other ≡ reply = cc in subst (λ r. sends r ≡ []) is (none.busy other)
not_accepted sends none refusals.BadEnd reply e = let is : replies.BadEnd ≡ reply = cc in subst (λ r. sends r ≡ []) is none.end
not_accepted sends none (refusals.NotReserved bound) reply e = absurd (cc)
not_accepted sends none refusals.Memory reply e = absurd (cc)

-- a client's message, as flows of a kind see it
rel_says : (kind : FlowKind) (s d from to : NodeId) (payload : List ℕ) → SaysRefusals (accepted_in kind s d (events.Rel from to payload))
rel_says Plain s d from to payload =
    record { full = λ b h. refl; expired = λ n. refl; paths = λ n. refl; low = λ n. refl; spent = λ n. refl; busy = λ n. refl; end = refl }
rel_says Paths s d from to payload =
    record { full = λ b h. refl; expired = λ n. refl; paths = λ n. refl; low = λ n. refl; spent = λ n. refl; busy = λ n. refl; end = refl }

krel_says : (kind : FlowKind) (s d from to : NodeId) (count : ℕ) (payload : List ℕ) → SaysRefusals (accepted_in kind s d (events.Krel from to count payload))
krel_says Plain s d from to count payload =
    record { full = λ b h. refl; expired = λ n. refl; paths = λ n. refl; low = λ n. refl; spent = λ n. refl; busy = λ n. refl; end = refl }
krel_says Paths s d from to count payload =
    record { full = λ b h. refl; expired = λ n. refl; paths = λ n. refl; low = λ n. refl; spent = λ n. refl; busy = λ n. refl; end = refl }

rel_seen : (kind : FlowKind) (s d from to : NodeId) (number : ℕ) (payload : List ℕ)
    → accepted_in kind s d (events.Rel from to payload) (replies.Accepted number) ≡ seen kind Plain (sent_now s d from to number payload)
rel_seen Plain s d from to number payload = refl
rel_seen Paths s d from to number payload = refl

krel_seen : (kind : FlowKind) (s d from to : NodeId) (count number : ℕ) (payload : List ℕ)
    → accepted_in kind s d (events.Krel from to count payload) (replies.Accepted number) ≡ seen kind Paths (sent_now s d from to number payload)
krel_seen Plain s d from to count number payload = refl
krel_seen Paths s d from to count number payload = refl

-- what a send says of what was sent
accepted_is : (kind k : FlowKind) (x : Setting) (s d from to : NodeId) (sends : Reply → List Message) → SaysRefusals sends → (number said : ℕ)
    (payload : List ℕ) → sends (replies.Accepted said) ≡ seen kind k (sent_now s d from to said payload) → (effects : List Effect) (output : Output)
    (j : Entry) (r : Option SendRefused) → Says x number output j → output ≡ refused_send r (accepted said effects)
    → sends j.reply ≡ seen kind k (sent_if s d from r to said payload)
accepted_is kind k x s d from to sends none number said payload there effects output j None says e =
    let word : Some (replies.Accepted said) ≡ Some j.reply = sym (ap (λ (o : Output). reply_word x number o.reply) e) ∙ says.reply in
    let is : replies.Accepted said ≡ j.reply = cc in
    subst (λ q. sends q ≡ seen kind k (sent_now s d from to said payload)) is there
accepted_is kind k x s d from to sends none number said payload there effects output j (Some refused) says e =
    not_accepted sends none refused j.reply (sym (ap (λ (o : Output). reply_word x number o.reply) e) ∙ says.reply) ∙ sym (seen_none kind k)

-- no other event sends a message of a flow
abbrev pub IsNoSend : Event → Type 0
IsNoSend (events.Rel a b c) = ⊥
IsNoSend (events.Krel a b c e) = ⊥
IsNoSend _ = Unit {0}

pub no_send : (kind : FlowKind) (s d : NodeId) (e : Event) (reply : Reply) → IsNoSend e → accepted_in kind s d e reply ≡ []
no_send Plain s d (events.Prio a b c e f g) reply is = refl
no_send Plain s d (events.Take a b) reply is = refl
no_send Plain s d (events.KTake a b) reply is = refl
no_send Plain s d (events.TakePrio a) reply is = refl
no_send Plain s d (events.Tick a b) reply is = refl
no_send Plain s d (events.Weight a b c) reply is = refl
no_send Plain s d (events.Poll a b) reply is = refl
no_send Plain s d (events.Pass a b c) reply is = refl
no_send Plain s d (events.Flip a b c e f) reply is = refl
no_send Plain s d (events.Inject a b c) reply is = refl
no_send Plain s d (events.Craft a b c e) reply is = refl
no_send Plain s d (events.CraftStatus a b c e f g) reply is = refl
no_send Plain s d (events.Publish a b) reply is = refl
no_send Plain s d (events.CraftDocument a b c e f) reply is = refl
no_send Plain s d (events.Start a) reply is = refl
no_send Plain s d (events.Stop a) reply is = refl
no_send Paths s d (events.Prio a b c e f g) reply is = refl
no_send Paths s d (events.Take a b) reply is = refl
no_send Paths s d (events.KTake a b) reply is = refl
no_send Paths s d (events.TakePrio a) reply is = refl
no_send Paths s d (events.Tick a b) reply is = refl
no_send Paths s d (events.Weight a b c) reply is = refl
no_send Paths s d (events.Poll a b) reply is = refl
no_send Paths s d (events.Pass a b c) reply is = refl
no_send Paths s d (events.Flip a b c e f) reply is = refl
no_send Paths s d (events.Inject a b c) reply is = refl
no_send Paths s d (events.Craft a b c e) reply is = refl
no_send Paths s d (events.CraftStatus a b c e f g) reply is = refl
no_send Paths s d (events.Publish a b) reply is = refl
no_send Paths s d (events.CraftDocument a b c e f) reply is = refl
no_send Paths s d (events.Start a) reply is = refl
no_send Paths s d (events.Stop a) reply is = refl
no_send Plain s d (events.Rel a b c) reply is = absurd is
no_send Plain s d (events.Krel a b c e) reply is = absurd is
no_send Paths s d (events.Rel a b c) reply is = absurd is
no_send Paths s d (events.Krel a b c e) reply is = absurd is

pub came_bytes : (u : NodeId) (f : List ℕ → List ℕ) (o : Option (List ℕ)) (i : Input) → option_map (λ bytes. steps.Datagram u (f bytes)) o ≡ Some i
    → (bytes : List ℕ) × (i ≡ steps.Datagram u bytes)
came_bytes u f None i e = absurd (cc)
came_bytes u f (Some bytes) i e = (f bytes, let g : Some (steps.Datagram u (f bytes)) ≡ Some i = e in cc)

pub crafted_bytes : (t : Bool) (c : NodeId) (bytes : List ℕ) (i : Input) → cond t (Some (steps.Datagram c bytes)) None ≡ Some i
    → (bs : List ℕ) × (i ≡ steps.Datagram c bs)
crafted_bytes true c bytes i e = (bytes, cc)
crafted_bytes false c bytes i e = absurd (cc)

module _ (kind : FlowKind) (arts : Arts) (x : Setting) (s d : NodeId) (different : s ≡ d → ⊥) (fits : SettingFits arts x)
    (carries : Carries x.topology.format arts)
    (d_correct : IsTrue (is_correct x d)) (es : List Event) (js : List Entry) (past : List Happened) (w : World) (h : FlowsHold kind arts x s d es js past w)
    (j : Entry)
    (n : NodeState) where
  abbrev C : Type 0
  C = IsTrue (is_correct x s)

  abbrev SF : ℕ → ℕ → List Message
  SF p q = sent_under kind past s p d q

  abbrev DF : ℕ → ℕ → List Message
  DF p q = delivered_under kind past s p d q

  abbrev cF : ℕ → ℕ → ℕ
  cF p q = acknowledged_under kind arts es js s p d q

  -- the boots that the node holds
  abbrev a : ℕ
  a = held_boot n.parts.lives s

  abbrev b : ℕ
  b = held_boot n.parts.lives d

  -- the acting node's part, which says this of what was sent
  abbrev After : NodeId → List Message → Output → NodeState → Type 0
  After v T output after = StepIs kind arts C s d a b (SF a b) T (DF a b) (cF a b) SF DF cF v output.effects n after

  before : (v : NodeId) → NodeIs x (Good arts x es js) v n → NodeAt kind arts C s d es js past v n
      → Before kind C x (Good arts x es js) s d a b (SF a b) (DF a b) (cF a b) v n
  before v is at = record { is = is; holding = record { src = refl; dst = refl }; rel = at.rel; prefix = λ k. h.prefix k a b; low = h.low a b }

  arrived_at : (v u : NodeId) (i : Input) (output : Output) (after : NodeState) → NodeStep arts n i output after → InputFits i
      → NodeIs x (Good arts x es js) v n → NewKeep (Known arts x es js) output.answered → NodeAt kind arts C s d es js past v n
      → (bytes : List ℕ) × (i ≡ steps.Datagram u bytes) → After v [] output after
  arrived_at v u i output after step input is known at (bytes, same) =
      let moves : NodeStep arts n (steps.Datagram u bytes) output after = subst (λ y. NodeStep arts n y output after) same step in
      let good = new_have (λ o. IsTrue (arts.is_good o.body)) arts n i output after carries.goods input step in
      datagram_done kind C x (Good arts x es js) arts s d a b (SF a b) (DF a b) (cF a b) SF DF cF v different (λ k. at.fresh_source) at.fresh_end fits
      carries.bodies n u bytes output after moves (subst InputFits same input)
      (new_both (Known arts x es js) (λ o. IsTrue (arts.is_good o.body)) (Vouched kind C s d a b (SF a b) (cF a b))
      (vouched kind arts carries.bodies x s d es js past w a b d_correct h) output.answered known good) (before v is at)

  -- an event that sends no message of a flow
  unsent : (v : NodeId) (e : Event) (reply : Reply) (output : Output) (after : NodeState) → accepted_in kind s d e reply ≡ []
      → After v [] output after → After v (accepted_in kind s d e reply) output after
  unsent v e reply output after none h = subst (λ T. After v T output after) (sym none) h

  pub stepped : (e : Event) (number : ℕ) (i : Input) (output : Output) (after : NodeState) → input_of arts x w n e ≡ Some i → InputFits i
      → NodeStep arts n i output after → Says x number output j → NodeIs x (Good arts x es js) (acting e) n → NewKeep (Known arts x es js) output.answered
      → NodeAt kind arts C s d es js past (acting e) n → After (acting e) (accepted_in kind s d e j.reply) output after
  stepped (events.Rel u to payload) number i output after reaches input step says is known at =
      let same : i ≡ steps.SendRel to payload = cc in
      let moves : NodeStep arts n (steps.SendRel to payload) output after = subst (λ y. NodeStep arts n y output after) same step in
      let told = accepted_is kind Plain x s d u to (accepted_in kind s d (events.Rel u to payload)) (rel_says kind s d u to payload) number (rel_number n to)
      payload (rel_seen kind s d u to (rel_number n to) payload) (rel_sent arts n to payload) output j (rel_refusal n to) says moves.0 in
      subst (λ T. After u T output after) (sym told)
      (send_done kind C x (Good arts x es js) arts s d a b (SF a b) (DF a b) (cF a b) SF DF cF u different (λ k. at.fresh_source) at.fresh_end fits
      carries.bodies
      n to payload output after moves (subst InputFits same input) (before u is at))
  stepped (events.Krel u to count payload) number i output after reaches input step says is known at =
      let m : KSend = record { dst = to; paths = count; payload = payload } in
      let same : i ≡ steps.SendKrel m = cc in
      let moves : NodeStep arts n (steps.SendKrel m) output after = subst (λ y. NodeStep arts n y output after) same step in
      let told = accepted_is kind Paths x s d u to (accepted_in kind s d (events.Krel u to count payload)) (krel_says kind s d u to count payload) number
      (krel_number n to) payload (krel_seen kind s d u to count (krel_number n to) payload) (krel_sent arts n m moves.choice) output j
      (send_krel_refusal n m moves.choice) says moves.output_is in
      subst (λ T. After u T output after) (sym told)
      (ksend_done kind C x (Good arts x es js) arts s d a b (SF a b) (DF a b) (cF a b) SF DF cF u different (λ k. at.fresh_source) at.fresh_end fits
      carries.bodies n m output after moves (subst InputFits same input) (before u is at))
  stepped (events.KTake v u) number i output after reaches input step says is known at =
      let same : i ≡ steps.TakeKrel u = cc in
      unsent v (events.KTake v u) j.reply output after (no_send kind s d (events.KTake v u) j.reply tt)
      (ktake_done kind C x (Good arts x es js) arts s d a b (SF a b) (DF a b) (cF a b) SF DF cF v different (λ k. at.fresh_source) at.fresh_end fits
      carries.bodies n u output after (subst (λ y. NodeStep arts n y output after) same step) (before v is at))
  stepped (events.Prio u to level expiry p payload) number i output after reaches input step says is known at =
      let m : PrioSend = record { dst = to; prio = level; expiry = expiry; paths = p; payload = payload } in
      let same : i ≡ steps.SendPrio m = cc in
      unsent u (events.Prio u to level expiry p payload) j.reply output after (no_send kind s d (events.Prio u to level expiry p payload) j.reply tt)
      (prio_done kind C x (Good arts x es js) arts s d a b (SF a b) (DF a b) (cF a b) SF DF cF u different (λ k. at.fresh_source) at.fresh_end fits
      carries.bodies
      n m output after (subst (λ y. NodeStep arts n y output after) same step) (subst InputFits same input) (before u is at))
  stepped (events.Take v u) number i output after reaches input step says is known at =
      let same : i ≡ steps.TakeRel u = cc in
      unsent v (events.Take v u) j.reply output after (no_send kind s d (events.Take v u) j.reply tt)
      (take_done kind C x (Good arts x es js) arts s d a b (SF a b) (DF a b) (cF a b) SF DF cF v different (λ k. at.fresh_source) at.fresh_end fits
      carries.bodies
      n u output after (subst (λ y. NodeStep arts n y output after) same step) (before v is at))
  stepped (events.TakePrio v) number i output after reaches input step says is known at =
      let same : i ≡ steps.TakePrio = cc in
      unsent v (events.TakePrio v) j.reply output after (no_send kind s d (events.TakePrio v) j.reply tt)
      (takep_done kind C x (Good arts x es js) arts s d a b (SF a b) (DF a b) (cF a b) SF DF cF v different (λ k. at.fresh_source) at.fresh_end fits
      carries.bodies
      n output after (subst (λ y. NodeStep arts n y output after) same step) (before v is at))
  stepped (events.Tick u now) number i output after reaches input step says is known at =
      let same : i ≡ steps.Tick now = cc in
      unsent u (events.Tick u now) j.reply output after (no_send kind s d (events.Tick u now) j.reply tt)
      (tick_done kind C x (Good arts x es js) arts s d a b (SF a b) (DF a b) (cF a b) SF DF cF u different (λ k. at.fresh_source) at.fresh_end fits
      carries.bodies
      n now output after (subst (λ y. NodeStep arts n y output after) same step) (before u is at))
  stepped (events.Weight u v weight) number i output after reaches input step says is known at =
      let same : i ≡ steps.SetWeight v weight = cc in
      unsent u (events.Weight u v weight) j.reply output after (no_send kind s d (events.Weight u v weight) j.reply tt)
      (weight_done kind C x (Good arts x es js) arts s d a b (SF a b) (DF a b) (cF a b) SF DF cF u different (λ k. at.fresh_source) at.fresh_end fits
      carries.bodies
      n v weight output after (subst (λ y. NodeStep arts n y output after) same step) (subst InputFits same input) (before u is at))
  stepped (events.Poll u v) number i output after reaches input step says is known at =
      let same : i ≡ steps.Poll v = cc in
      unsent u (events.Poll u v) j.reply output after (no_send kind s d (events.Poll u v) j.reply tt)
      (poll_done kind C x (Good arts x es js) arts s d a b (SF a b) (DF a b) (cF a b) SF DF cF u different (λ k. at.fresh_source) at.fresh_end fits
      carries.bodies
      n v output after (subst (λ y. NodeStep arts n y output after) same step) (before u is at))
  stepped (events.Pass u v k) number i output after reaches input step says is known at =
      unsent v (events.Pass u v k) j.reply output after (no_send kind s d (events.Pass u v k) j.reply tt)
      (arrived_at v u i output after step input is known at (came_bytes u (λ y. y) _ i reaches))
  stepped (events.Flip u v k back bit) number i output after reaches input step says is known at =
      unsent v (events.Flip u v k back bit) j.reply output after (no_send kind s d (events.Flip u v k back bit) j.reply tt)
      (arrived_at v u i output after step input is known at (came_bytes u (flipped back bit) _ i reaches))
  stepped (events.Inject u v bytes) number i output after reaches input step says is known at =
      unsent v (events.Inject u v bytes) j.reply output after (no_send kind s d (events.Inject u v bytes) j.reply tt)
      (arrived_at v u i output after step input is known at (bytes, cc))
  stepped (events.Craft u v key body) number i output after reaches input step says is known at =
      unsent v (events.Craft u v key body) j.reply output after (no_send kind s d (events.Craft u v key body) j.reply tt)
      (arrived_at v u i output after step input is known at (crafted_bytes _ u _ i reaches))
  stepped (events.CraftStatus u v from to base have) number i output after reaches input step says is known at =
      unsent v (events.CraftStatus u v from to base have) j.reply output after (no_send kind s d (events.CraftStatus u v from to base have) j.reply tt)
      (arrived_at v u i output after step input is known at (crafted_frame arts n u (slot_alone n.parts.lives (flow_of from to) base have None []), cc))
  stepped (events.Publish u weights) number i output after reaches input step says is known at =
      let document = handed_out x (with_list w.published weights) in
      let same : i ≡ steps.Publish document = cc in
      unsent u (events.Publish u weights) j.reply output after (no_send kind s d (events.Publish u weights) j.reply tt)
      (publish_done kind C x (Good arts x es js) arts s d a b (SF a b) (DF a b) (cF a b) SF DF cF u different (λ k. at.fresh_source) at.fresh_end fits
      carries.bodies
      n document output after (subst (λ y. NodeStep arts n y output after) same step) (before u is at))
  stepped (events.CraftDocument u v key version weights) number i output after reaches input step says is known at =
      unsent v (events.CraftDocument u v key version weights) j.reply output after (no_send kind s d (events.CraftDocument u v key version weights) j.reply tt)
      (arrived_at v u i output after step input is known at (crafted_bytes _ u _ i reaches))
  stepped (events.Start u) number i output after reaches input step says is known at = absurd cc
  stepped (events.Stop u) number i output after reaches input step says is known at = absurd cc
