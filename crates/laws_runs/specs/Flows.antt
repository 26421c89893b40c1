-- Reliable messages over a run: what stands at each node of the flow of either kind from any node to a correct one.
use Rattle.std.specs.Prelude.{ℕ, ◌≡◌, ◌+◌, ◌-◌, ◌≤◌, Bool, true, false, IsTrue, List, [], ◌∷◌, length, Some, slice_get}
use Rattle.sp_base.specs.Lists.{IsPrefix}
use Rattle.sp_base.specs.declared.id.NodeId.{NodeId}
use Rattle.sp_msg.specs.Bodies.{payload_of}
use Rattle.sp_msg.specs.declared.body.Body.{Body}
use Rattle.sp_msg.specs.declared.kept.Kept.{Kept}
use Rattle.sp_rules.specs.Arts.{Arts}
use Rattle.sp_rules.specs.Flow.{FlowState, flow_said, number_said}
use Rattle.sp_rules.specs.Kflow.{ack_body}
use Rattle.sp_rules.specs.Node.{NodeState}
use Rattle.sp_rules.specs.Parts.{flows_of}
use Rattle.sp_rules.specs.Rel.{flow_in, is_over}
use Rattle.sp_rules.specs.declared.kflow.FlowKind.{FlowKind}
use Rattle.sp_runs.specs.Forgery.{is_among}
use Rattle.sp_runs.specs.Runs.{Clean}
use Rattle.sp_runs.specs.Settings.{Setting, StaysUp, is_correct, is_node}
use Rattle.sp_runs.specs.Told.{Message, delivered, sent, signed}
use Rattle.sp_runs.specs.Worlds.{World, node_in}
use Rattle.sp_journal.specs.declared.entry.Entry.{Entry}
use Rattle.sp_schedule_events.specs.declared.event.Event.{Event}
use Rattle.laws_node.specs.Flows.{IsRelOf}
use Rattle.laws_runs.specs.Acknowledged.{acknowledged}
use Rattle.laws_runs.specs.Premises.{Carries}

-- the messages have the numbers after this one, in order
abbrev pub AreNumbered : ℕ → List Message → Type 0
AreNumbered after [] = Unit {0}
AreNumbered after (m ∷ messages) = (m.0 ≡ after + 1) × AreNumbered (after + 1) messages

-- the message of this number and payload is among what was sent
pub record IsIn (S : List Message) (q : ℕ) (p : List ℕ) : Type 0 where
  pub number : 1 ≤ q
  pub there : slice_get S (q - 1) ≡ Some (q, p)

-- the messages of the list are those that were sent under the numbers after this one
abbrev pub AreSent : List Message → ℕ → List Kept → Type 0
AreSent S after [] = Unit {0}
AreSent S after (o ∷ os) = IsIn S (after + 1) (payload_of o.body) × AreSent S (after + 1) os

-- the flow of a kind from s to d at a node
abbrev pub flow_at : FlowKind → NodeState → NodeId → NodeId → FlowState
flow_at kind n s d = flow_in (flows_of kind n.parts).flows (record { src = s; dst = d })

-- an end of the flow is removed at a node, so it has ended there, and stands at (0, 0) for good
abbrev pub has_ended : FlowKind → NodeState → NodeId → NodeId → Bool
has_ended kind n s d = is_over (flows_of kind n.parts).removed (record { src = s; dst = d })

-- the acknowledgement that is kept of the flow from s to d has the number up to which messages count as acknowledged, and d signed it
pub record IsVouchedFor (kind : FlowKind) (arts : Arts) (s d : NodeId) (es : List Event) (js : List Entry) (f : FlowState) : Type 0 where
  pub ack : Kept
  pub kept : f.ack ≡ Some ack
  pub body : ack.body ≡ ack_body kind (record { src = s; dst = d; sboot = 0; dboot = 0; seq = f.at.base })
  pub signed : is_among (arts.spell ack.body) (signed es js d) ≡ true

-- d is correct
pub record FlowClaims (kind : FlowKind) (arts : Arts) (x : Setting) (s d : NodeId) (es : List Event) (js : List Entry) (w : World) : Type 0 where
  -- at each correct node, what counts as acknowledged was acknowledged by d, and d acknowledged only what it delivered
  pub base : (u : NodeId) (n : NodeState) → node_in w.nodes u ≡ Some n → (flow_at kind n s d).at.base ≤ acknowledged kind arts es js s d
  pub base_at_end : (n : NodeState) → node_in w.nodes d ≡ Some n → has_ended kind n s d ≡ false
      → (flow_at kind n s d).at.base ≡ acknowledged kind arts es js s d
  pub acknowledged : acknowledged kind arts es js s d ≤ length (delivered kind es js s d)
  -- and each node that counts something as acknowledged has d's word for it
  pub vouched : (u : NodeId) (n : NodeState) → node_in w.nodes u ≡ Some n → 1 ≤ (flow_at kind n s d).at.base
      → IsVouchedFor kind arts s d es js (flow_at kind n s d)
  -- what came to d was delivered
  pub have_at_end : (n : NodeState) → node_in w.nodes d ≡ Some n → has_ended kind n s d ≡ false
      → (flow_at kind n s d).at.have ≡ length (delivered kind es js s d)
  -- where s is correct, what came anywhere was sent, and so are the messages of each list. What was delivered is a prefix of what was sent,
  -- with the numbers 1, 2, 3 and so on
  pub have : IsTrue (is_correct x s) → (u : NodeId) (n : NodeState) → node_in w.nodes u ≡ Some n → (flow_at kind n s d).at.have ≤ length (sent kind es js s d)
  pub have_at_source : IsTrue (is_correct x s) → (n : NodeState) → node_in w.nodes s ≡ Some n → has_ended kind n s d ≡ false
      → (flow_at kind n s d).at.have ≡ length (sent kind es js s d)
  pub lists : IsTrue (is_correct x s) → (u : NodeId) (n : NodeState) → node_in w.nodes u ≡ Some n
      → AreSent (sent kind es js s d) (flow_at kind n s d).at.base (flow_at kind n s d).at.list
  -- and whatever it signed as a message of this flow
  pub messages : IsTrue (is_correct x s) → (m : Body) → IsRelOf kind m → IsTrue (arts.is_good m) → flow_said m ≡ record { src = s; dst = d }
      → is_among (arts.spell m) (signed es js s) ≡ true → IsIn (sent kind es js s d) (number_said m) (payload_of m)
  pub prefix : IsTrue (is_correct x s) → IsPrefix (delivered kind es js s d) (sent kind es js s d)
  pub numbered : IsTrue (is_correct x s) → AreNumbered 0 (delivered kind es js s d)
  pub sent_numbered : IsTrue (is_correct x s) → AreNumbered 0 (sent kind es js s d)

-- of any node s and a correct other one d
abbrev pub FlowsAreKept : Type 0
FlowsAreKept = (kind : FlowKind) (arts : Arts) (x : Setting) (es : List Event) (js : List Entry) (w : World) → StaysUp arts x → Carries x.topology.format arts
    → Clean arts x es js w
    → (s d : NodeId) → IsTrue (is_node x s) → IsTrue (is_correct x d) → (s ≡ d → ⊥) → FlowClaims kind arts x s d es js w
