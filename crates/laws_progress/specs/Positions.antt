-- What counted delivery rests on, in every state of a run without forgery: where a flow of either kind between correct nodes stands at each node, what
-- neighbours know of each other, and that each flow that waits for its turn is counted.
use Rattle.std.specs.Prelude.{◌≡◌, ◌≤◌, ◌||◌, Bool, not, IsTrue, List, [], count_by, Some}
use Rattle.std.specs.List.{All, list_any}
use Rattle.sp_base.specs.Position.{IsPosition}
use Rattle.sp_base.specs.declared.id.Flow.{Flow}
use Rattle.sp_base.specs.declared.id.NodeId.{NodeId}
use Rattle.sp_rules.specs.Arts.{Arts}
use Rattle.sp_rules.specs.Flow.{ends}
use Rattle.sp_rules.specs.Node.{NodeState}
use Rattle.sp_rules.specs.Parts.{flows_of}
use Rattle.sp_rules.specs.Rel.{View, peer_in, view_in}
use Rattle.sp_rules.specs.declared.kflow.FlowKind.{FlowKind}
use Rattle.sp_runs.specs.Forgery.{lists_in}
use Rattle.sp_runs.specs.Rounds.{flow_count, has_correct_ends, is_send}
use Rattle.sp_runs.specs.Runs.{Clean, is_hop}
use Rattle.sp_runs.specs.Settings.{Setting, StaysUp, is_correct}
use Rattle.sp_runs.specs.Told.{sent}
use Rattle.sp_runs.specs.Worlds.{World, node_in}
use Rattle.sp_journal.specs.declared.entry.Entry.{Entry}
use Rattle.sp_schedule_events.specs.declared.event.Event.{Event}
use Rattle.laws_runs.specs.Flows.{AreSent, IsVouchedFor, flow_at}
use Rattle.laws_runs.specs.Premises.{ComesThrough}

-- what neighbour v reported last of the flow of a kind from s to d
abbrev pub view_at : FlowKind → NodeState → (v s d : NodeId) → View
view_at kind n v s d = view_in (peer_in (flows_of kind n.parts).peers v).views (record { src = s; dst = d })

-- the flow is one of those that `flow_count` counts: a client sends to it among these events, or one of its ends is compromised
abbrev pub is_counted : FlowKind → Setting → List Event → Flow → Bool
is_counted kind x es flow = list_any (is_send kind flow) es || not (has_correct_ends x flow)

-- s and d are correct, and different
pub record PositionClaims (kind : FlowKind) (arts : Arts) (x : Setting) (s d : NodeId) (es : List Event) (js : List Entry) (w : World) : Type 0 where
  -- what counts as acknowledged at a node counts so at d, d has what it acknowledged, and what a node has s has
  pub base : (u : NodeId) (n end : NodeState) → node_in w.nodes u ≡ Some n → node_in w.nodes d ≡ Some end
      → (flow_at kind n s d).at.base ≤ (flow_at kind end s d).at.base
  pub base_at_end : (end : NodeState) → node_in w.nodes d ≡ Some end → (flow_at kind end s d).at.base ≤ (flow_at kind end s d).at.have
  pub have : (u : NodeId) (n source : NodeState) → node_in w.nodes u ≡ Some n → node_in w.nodes s ≡ Some source
      → (flow_at kind n s d).at.have ≤ (flow_at kind source s d).at.have
  -- a node other than d keeps the messages that s sent after its base, up to its have
  pub list : (u : NodeId) (n : NodeState) → node_in w.nodes u ≡ Some n → (u ≡ d → ⊥)
      → IsPosition (flow_at kind n s d).at × AreSent (sent kind es js s d) (flow_at kind n s d).at.base (flow_at kind n s d).at.list
  -- and has d's word for its base
  pub vouched : (u : NodeId) (n : NodeState) → node_in w.nodes u ≡ Some n → 1 ≤ (flow_at kind n s d).at.base
      → IsVouchedFor kind arts s d es js (flow_at kind n s d)
  -- what it knows of a neighbour is at most where that one stands
  pub view : (u v : NodeId) (n m : NodeState) → IsTrue (is_hop x u v) → node_in w.nodes u ≡ Some n → node_in w.nodes v ≡ Some m
      → ((view_at kind n v s d).base ≤ (flow_at kind m s d).at.base) × ((view_at kind n v s d).have ≤ (flow_at kind m s d).at.have)

-- where each flow between correct nodes stands, and that all active flows are counted
pub record ProgressClaims (kind : FlowKind) (arts : Arts) (x : Setting) (es : List Event) (js : List Entry) (w : World) : Type 0 where
  pub positions : (s d : NodeId) → IsTrue (is_correct x s) → IsTrue (is_correct x d) → (s ≡ d → ⊥) → PositionClaims kind arts x s d es js w
  -- each flow that is active at a node is counted, so there are no more of them
  pub counted : (u : NodeId) (n : NodeState) → node_in w.nodes u ≡ Some n
      → All (λ f. IsTrue f.active → IsTrue (is_counted kind x es (ends f))) (flows_of kind n.parts).flows
  pub few : (u : NodeId) (n : NodeState) → node_in w.nodes u ≡ Some n → count_by (λ f. f.active) (flows_of kind n.parts).flows ≤ flow_count kind x es

-- the administrator publishes no version of the topology in these events, so that all nodes run under the first
abbrev pub TopologyStays : List Event → Type 0
TopologyStays es = lists_in es ≡ []

-- of each run without forgery and without epochs in which the topology stays
abbrev pub PositionsAreInOrder : Type 0
PositionsAreInOrder = (kind : FlowKind) (arts : Arts) (x : Setting) (es : List Event) (js : List Entry) (w : World) → StaysUp arts x
    → ComesThrough x.topology.format arts x.signature_len
    → 1 ≤ x.buffer → Clean arts x es js w → TopologyStays es → ProgressClaims kind arts x es js w
