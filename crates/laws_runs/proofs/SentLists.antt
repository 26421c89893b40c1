-- The list of each node has the messages that were sent.
use Rattle.std.proofs.Common.{◌≡◌, ℕ, ◌+◌, true, List, [], ◌∷◌, sym, ap, ap₂, subst, ◌∙◌}
use Rattle.std.specs.Prelude.{IsTrue}
use Rattle.std.specs.List.{All}
use Rattle.std.proofs.lemmas.List.Elements.{All-head, All-tail}
use Rattle.sp_base.specs.declared.id.Flow.{Flow}
use Rattle.sp_base.specs.declared.id.NodeId.{NodeId}
use Rattle.sp_msg.specs.Bodies.{payload_of}
use Rattle.sp_msg.specs.Views.{signer_of}
use Rattle.sp_msg.specs.declared.body.Body.{Body}
use Rattle.sp_msg.specs.declared.body.Body.TheVariants as bodies
use Rattle.sp_msg.specs.declared.kept.Kept.{Kept}
use Rattle.sp_rules.specs.Arts.{Arts}
use Rattle.sp_rules.specs.Flow.{AreMessages, IsMessage, boots_said, ends, flow_said, number_said}
use Rattle.sp_rules.specs.Lives.{held_boot}
use Rattle.sp_rules.specs.Node.{NodeState}
use Rattle.sp_rules.specs.Parts.{flows_of, nodes_of}
use Rattle.sp_rules.specs.declared.kflow.FlowKind.{FlowKind}
use Rattle.sp_rules.specs.declared.kflow.FlowKind.TheVariants.{Plain, Paths}
use Rattle.sp_rules.specs.declared.lives.Life.{Life}
use Rattle.laws_node.specs.Flows.{IsRelOf}
use Rattle.laws_node.proofs.FlowKinds.{flows_hold}
use Rattle.laws_node.specs.Sizes.{Fits}
use Rattle.laws_node.proofs.Boot.{nodes_hold}
use Rattle.sp_rules.proofs.FlowJudged.{found_ends}
use Rattle.laws_node.proofs.Reliable.{in_range, read}
use Rattle.sp_runs.specs.Forgery.{is_among}
use Rattle.sp_runs.specs.Settings.{Setting, SettingFits, is_correct, is_node}
use Rattle.sp_runs.specs.Told.{Message, signed}
use Rattle.sp_runs.specs.Worlds.{World}
use Rattle.sp_journal.specs.declared.entry.Entry.{Entry}
use Rattle.sp_schedule_events.specs.declared.event.Event.{Event}
use Rattle.laws_runs.specs.Dated.{NamesHeld}
use Rattle.laws_runs.specs.Flows.{AreSent, IsIn, flow_at}
use Rattle.laws_runs.specs.Past.{Happened, sent_under}
use Rattle.laws_runs.specs.Signs.{Good, NodeIs, sizes_at}
use Rattle.laws_runs.proofs.Dated.{flow_dated}
use Rattle.laws_runs.proofs.FlowFacts.{flow_of}
use Rattle.laws_runs.proofs.Flows.{FlowsHold, rel_signer}

-- what a message of the flow says, that names the boots that are held
message_says : (kind : FlowKind) (lives : List Life) (flow : Flow) (number : ℕ) (body : Body) → IsRelOf kind body → IsMessage flow number body
    → NamesHeld lives flow body
    → (flow_said body ≡ flow) × (number_said body ≡ number) × (boots_said body ≡ (held_boot lives flow.src, held_boot lives flow.dst))
message_says Plain lives flow number (bodies.Rel m) is at names =
    (ap₂ (λ (a b : NodeId). flow_of a b) at.0 at.1, at.2, ap₂ (λ (a b : ℕ). (a, b)) names.source names.end)
message_says Paths lives flow number (bodies.Krel m) is at names =
    (ap₂ (λ (a b : NodeId). flow_of a b) at.0 at.1, at.2, ap₂ (λ (a b : ℕ). (a, b)) names.source names.end)
message_says Plain lives flow number (bodies.Prio m) is at names = absurd is
message_says Plain lives flow number (bodies.Ack m) is at names = absurd is
message_says Plain lives flow number (bodies.Weight m) is at names = absurd is
message_says Plain lives flow number (bodies.Krel m) is at names = absurd is
message_says Plain lives flow number (bodies.Kack m) is at names = absurd is
message_says Plain lives flow number (bodies.Epoch m) is at names = absurd is
message_says Paths lives flow number (bodies.Prio m) is at names = absurd is
message_says Paths lives flow number (bodies.Rel m) is at names = absurd is
message_says Paths lives flow number (bodies.Ack m) is at names = absurd is
message_says Paths lives flow number (bodies.Weight m) is at names = absurd is
message_says Paths lives flow number (bodies.Kack m) is at names = absurd is
message_says Paths lives flow number (bodies.Epoch m) is at names = absurd is

module _ (kind : FlowKind) (arts : Arts) (x : Setting) (s d : NodeId) (es : List Event) (js : List Entry) (past : List Happened) (w : World)
    (h : FlowsHold kind arts x s d es js past w)
    (correct : IsTrue (is_correct x s)) (lives : List Life) where
  -- what was sent under the boots that are held
  abbrev S : List Message
  S = sent_under kind past s (held_boot lives s) d (held_boot lives d)

  one_sent : (flow : Flow) (number : ℕ) (o : Kept) → flow ≡ flow_of s d → IsMessage flow number o.body → IsRelOf kind o.body → NamesHeld lives flow o.body
      → Good arts x es js o → IsIn S number (payload_of o.body)
  one_sent flow number o same at is names good =
      let says = message_says kind lives flow number o.body is at names in
      let said : flow_said o.body ≡ flow_of s d = says.0 ∙ same in
      let boots : boots_said o.body ≡ (held_boot lives s, held_boot lives d) =
      says.2 ∙ ap (λ (f : Flow). (held_boot lives f.src, held_boot lives f.dst)) same in
      let signer : signer_of o.body ≡ s = rel_signer kind o.body is ∙ ap (λ (f : Flow). f.src) said in
      let known : is_among (arts.spell o.body) (signed es js s) ≡ true =
      subst (λ (v : NodeId). is_among (arts.spell o.body) (signed es js v) ≡ true) signer
      (good.known (subst (λ (v : NodeId). IsTrue (is_correct x v)) (sym signer) correct)) in
      let there = h.messages correct o.body is good.good said known in
      subst (λ q. IsIn S q (payload_of o.body)) says.1
      (subst (λ (b : ℕ × ℕ). IsIn (sent_under kind past s b.0 d b.1) (number_said o.body) (payload_of o.body)) boots there)

  list_sent : (u : NodeId) (flow : Flow) (after : ℕ) (os : List Kept) → flow ≡ flow_of s d → AreMessages flow after os
      → All (Fits (sizes_at x (Good arts x es js) u)) os
      → All (λ m. IsRelOf kind m.body) os → All (λ m. NamesHeld lives flow m.body) os → AreSent S after os
  list_sent u flow after [] same are all plain names = tt
  list_sent u flow after (o ∷ os) same are all plain names =
      let fits = All-head (Fits (sizes_at x (Good arts x es js) u)) o os all in (
        one_sent flow (after + 1) o same are.0 (All-head (λ m. IsRelOf kind m.body) o os plain) (All-head (λ m. NamesHeld lives flow m.body) o os names)
            fits.holds,
        list_sent u flow (after + 1) os same are.1 (All-tail (Fits (sizes_at x (Good arts x es js) u)) o os all)
            (All-tail (λ m. IsRelOf kind m.body) o os plain)
            (All-tail (λ m. NamesHeld lives flow m.body) o os names),
      )

pub lists_sent : (kind : FlowKind) (arts : Arts) (x : Setting) (s d : NodeId) (es : List Event) (js : List Entry) (past : List Happened) (w : World)
    → SettingFits arts x
    → FlowsHold kind arts x s d es js past w
    → IsTrue (is_correct x s) → is_node x s ≡ true → is_node x d ≡ true → (u : NodeId) (n : NodeState) → NodeIs x (Good arts x es js) u n
    → AreSent (sent_under kind past s (held_boot n.parts.lives s) d (held_boot n.parts.lives d)) (flow_at kind n s d).at.base (flow_at kind n s d).at.list
lists_sent kind arts x s d es js past w fits h correct from to u n is =
    let k = sizes_at x (Good arts x es js) u in
    let nodes = nodes_hold x.topology.format x.topology.height 0 x.topology.nodes fits.topology.ranges.nodes in
    let row = read kind k n.signer.index (flows_of kind n.parts).flows (flow_of s d) (in_range x.topology.format (nodes_of x.topology) s nodes from)
    (in_range x.topology.format (nodes_of x.topology) d nodes to)
    (flows_hold kind k n.parts is.holds.parts).flows in
    let f = flow_at kind n s d in
    list_sent kind arts x s d es js past w h correct n.parts.lives u (ends f) f.at.base f.at.list
    (found_ends (flows_of kind n.parts).flows (flow_of s d)) row.standing.messages row.messages
    row.reliable (flow_dated n.parts.lives (flows_of kind n.parts) (flow_of s d) (is.dated kind)).messages
