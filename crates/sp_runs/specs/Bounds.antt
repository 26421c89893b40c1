-- What no node's state exceeds: its lists and stores by the bounds of the header, and all else by one.
use Rattle.std.specs.Prelude.{ℕ, ◌≡◌, ◌≤◌, ◌*◌, List, Some, IfSome, length, map}
use Rattle.std.specs.List.{All}
use Rattle.sp_base.specs.declared.id.NodeId.{NodeId}
use Rattle.sp_base.specs.declared.limits.TheConstants.{MAX_MESSAGES}
use Rattle.sp_frame.specs.Views.{as_list}
use Rattle.sp_rules.specs.Flow.{FlowState, ends}
use Rattle.sp_rules.specs.Node.{NodeState}
use Rattle.sp_rules.specs.Parts.{flows_of, neighbours_of, nodes_of}
use Rattle.sp_rules.specs.PrioPeer.{PrioPeer}
use Rattle.sp_rules.specs.Rel.{pairs_of}
use Rattle.sp_rules.specs.Weights.{held_in, row_for}
use Rattle.sp_rules.specs.declared.kflow.FlowKind.{FlowKind}
use Rattle.sp_runs.specs.Settings.{Setting, fixed_of}

-- the ids of the neighbours of a node
abbrev pub neighbour_ids : Setting → NodeId → List ℕ
neighbour_ids x u = map (λ n. n.0.0) (neighbours_of (fixed_of x u))

-- a flow has at most so many messages, as many payloads in its inbox, and one acknowledgement
pub record FlowIsBounded (buffer : ℕ) (f : FlowState) : Type 0 where
  pub list : length f.at.list ≤ buffer
  pub inbox : length f.inbox ≤ buffer
  pub acknowledgement : length (as_list f.ack) ≤ 1

-- a neighbour has at most so many entries, and four messages in flight
pub record PeerIsBounded (store : ℕ) (q : PrioPeer) : Type 0 where
  pub entries : length q.store.entries ≤ store
  pub flight : length q.flight ≤ MAX_MESSAGES

-- a node's lists and stores are within the bounds of the header
pub record IsBounded (x : Setting) (u : NodeId) (n : NodeState) : Type 0 where
  -- each flow of either kind has one row
  pub flows : (kind : FlowKind) → map ends (flows_of kind n.parts).flows ≡ pairs_of (nodes_of x.topology)
  pub each_flow : (kind : FlowKind) → All (FlowIsBounded x.buffer) (flows_of kind n.parts).flows
  -- the inbox and, of each neighbour, one store
  pub inbox : length n.parts.prio.inbox.entries ≤ x.store
  pub peers : map (λ q. q.peer) n.parts.prio.peers ≡ neighbour_ids x u
  pub each_peer : All (PeerIsBounded x.store) n.parts.prio.peers
  -- each end of each edge has one row, and an update stands in the row of its own end
  pub rows : length n.parts.weights.rows ≡ 2 * length x.topology.edges
  pub each_update : (row : ℕ) → IfSome (held_in n.parts.weights.rows row) (λ o. row_for x.topology.edges o.body ≡ Some row)
