-- Counted delivery is within a version, and of messages that may go along the path: the path goes over edges that the version doesn't withdraw, and each of its
-- nodes runs under that version all the time. Two states say so: a node's version never falls within its life, and its weights change with it alone. Nothing is
-- said of the other nodes, nor of what is published meanwhile.
use Rattle.std.specs.Prelude.{ℕ, ◌≡◌, true, false, List, Some}
use Rattle.std.specs.List.{All, position_or_len}
use Rattle.sp_base.specs.declared.id.NodeId.{NodeId}
use Rattle.sp_graph.specs.Walks.{steps}
use Rattle.sp_msg.specs.Masks.{bits}
use Rattle.sp_msg.specs.Views.{names_edge}
use Rattle.sp_msg.specs.declared.mask.Mask.{Mask}
use Rattle.sp_rules.specs.Kflow.{waiting_mask}
use Rattle.sp_rules.specs.Node.{NodeState}
use Rattle.sp_rules.specs.Topologies.{is_shut}
use Rattle.sp_rules.specs.declared.kflow.FlowKind.{FlowKind}
use Rattle.sp_rules.specs.declared.kflow.FlowKind.TheVariants as kinds
use Rattle.sp_topology.specs.Neighbours.{joins}
use Rattle.sp_runs.specs.Paths.{IsCorrectPath}
use Rattle.sp_runs.specs.Settings.{Setting}
use Rattle.sp_runs.specs.Worlds.{World, node_in}

-- these weights don't withdraw the edge between two neighbours
abbrev pub IsOpenHop : Setting → (weights : List ℕ) → NodeId × NodeId → Type 0
IsOpenHop x weights hop = is_shut weights (position_or_len (joins hop.0.0 hop.1.0) x.topology.edges) ≡ false

-- a path of a version with these weights
pub record IsPathUnder (x : Setting) (weights : List ℕ) (s d : NodeId) (path : List NodeId) : Type 0 where
  pub walks : IsCorrectPath x s d path
  pub open_hops : All (IsOpenHop x weights) (steps path)

-- an edge of a mask joins two neighbours
abbrev pub HasEdge : Setting → Mask → NodeId × NodeId → Type 0
HasEdge x mask hop = names_edge (bits mask) (position_or_len (joins hop.0.0 hop.1.0) x.topology.edges) ≡ true

-- What waits at a node for a destination may go along the path. Plain messages may go over each edge, those on paths over the edges of the mask that waits.
-- Where none waits, all that was accepted is acknowledged
abbrev pub MayGo : FlowKind → Setting → NodeState → NodeId → List NodeId → Type 0
MayGo kinds.Plain x n d path = Unit {0}
MayGo kinds.Paths x n d path = (mask : Mask) → waiting_mask n.parts.kflow d ≡ Some mask → All (HasEdge x mask) (steps path)

-- where the node runs, it runs under this version, in which edges have these weights
pub record RunsUnder (version : ℕ) (weights : List ℕ) (w : World) (u : NodeId) : Type 0 where
  pub version_is : (n : NodeState) → node_in w.nodes u ≡ Some n → n.live.version ≡ version
  pub weights_are : (n : NodeState) → node_in w.nodes u ≡ Some n → n.live.weights ≡ weights

-- each node of the path does, in the first state and in the last
pub record StaysUnder (version : ℕ) (weights : List ℕ) (path : List NodeId) (first last : World) : Type 0 where
  pub begins : All (RunsUnder version weights first) path
  pub ends : All (RunsUnder version weights last) path
