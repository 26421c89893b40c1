-- What a node keeps for others: the weights of links, priority messages and reliable messages, and which lives of nodes it knows. And what stays as it is in
-- one of its lives.
use Rattle.std.specs.Prelude.{ℕ, ◌==◌, ◌+◌, Bool, false, not, List, [], ◌∷◌, ◌++◌, length, map, position, replicate, Option, None, Some, if◌then◌else◌}
use Rattle.sp_base.specs.declared.format.TheConstants.{FORMAT_1}
use Rattle.sp_base.specs.declared.id.EdgeId.{EdgeId}
use Rattle.sp_base.specs.declared.id.NodeId.{NodeId}
use Rattle.sp_msg.specs.Views.{signer_of}
use Rattle.sp_msg.specs.declared.effect.Effect.{Effect}
use Rattle.sp_msg.specs.declared.kept.Kept.{Kept}
use Rattle.sp_topology.specs.Keys.{key_of}
use Rattle.sp_topology.specs.Neighbours.{joins, neighbours_from}
use Rattle.sp_topology.specs.declared.topology.NodeKey.{NodeKey}
use Rattle.sp_topology.specs.declared.topology.Topology.{Topology}
use Rattle.sp_rules.specs.Arts.{Arts}
use Rattle.sp_rules.specs.Kflow.{KState}
use Rattle.sp_rules.specs.Kflow as kflow
use Rattle.sp_rules.specs.Lives as lives
use Rattle.sp_rules.specs.Prio.{PrioState}
use Rattle.sp_rules.specs.Prio as prio
use Rattle.sp_rules.specs.Rel.{RelState}
use Rattle.sp_rules.specs.Rel as rel
use Rattle.sp_rules.specs.Topologies.{removed_of, weights_in}
use Rattle.sp_rules.specs.Weights.{WeightState}
use Rattle.sp_rules.specs.Weights as weights
use Rattle.sp_rules.specs.declared.kflow.FlowKind.{FlowKind}
use Rattle.sp_rules.specs.declared.kflow.FlowKind.TheVariants as kinds
use Rattle.sp_rules.specs.declared.lives.Life.{Life}
use Rattle.sp_rules.specs.declared.prio.Neighbour.{Neighbour}

-- this node, its boot number, the topology that it boots with and the document that says so, how long all signatures are there, and the administrator's key.
-- All versions of the topology have the format, the height, the nodes, their keys and the ends of edges of this one
pub record Fixed : Type 0 where
  pub me : NodeId
  pub boot : ℕ
  pub topology : Topology
  pub document : List ℕ
  pub signature_len : ℕ
  pub admin : List ℕ
  -- whether nodes run with epochs
  pub epochs : Bool

-- what a node keeps of weights, priority messages, reliable flows of both kinds, and other nodes' starts
pub record Parts : Type 0 where
  pub weights : WeightState
  pub prio : PrioState
  pub rel : RelState
  pub kflow : KState
  pub lives : List Life
  pub origins : List (Option ℕ)

-- ---- the flows

-- those of a kind
abbrev pub flows_of : FlowKind → Parts → RelState
flows_of kinds.Plain p = p.rel
flows_of kinds.Paths p = p.kflow.flows

-- the parts with other states of the flows of a kind
abbrev pub with_flows : FlowKind → RelState → Parts → Parts
with_flows kinds.Plain r p = record p { rel = r }
with_flows kinds.Paths r p = record p { kflow = kflow.with_flows p.kflow r }

-- ---- the topology as a node sees it

-- the nodes of a topology, in its order
abbrev pub nodes_of : Topology → List NodeId
nodes_of t = map (λ n. n.id) t.nodes

-- the neighbours, ascending, each with the edge to it
abbrev pub neighbours_of : Fixed → List (NodeId × EdgeId)
neighbours_of f = neighbours_from f.me.0 0 f.topology.edges

-- the edge to another node. None where there is none
abbrev pub edge_to : Fixed → NodeId → Option ℕ
edge_to f v = position (joins f.me.0 v.0) f.topology.edges

-- where a node stands among all nodes
abbrev pub place_in : List NodeKey → NodeId → ℕ
place_in [] v = 0
place_in (n ∷ nodes) v = if n.id.0 == v.0 then 0 else place_in nodes v + 1

-- the place of a node in its topology
abbrev pub place_of : Fixed → NodeId → ℕ
place_of f v = place_in f.topology.nodes v

-- the topology says format 1: no version follows, and no flow goes on paths
abbrev pub is_first : Fixed → Bool
is_first f = f.topology.format == FORMAT_1

-- other versions of the topology may follow
abbrev pub changes : Fixed → Bool
changes f = not (is_first f)

-- ---- signatures

-- whether a signature is valid under a key; without a key none is
abbrev pub is_signed_by : Arts → Option (List ℕ) → List ℕ → List ℕ → Bool
is_signed_by arts None message signature = false
is_signed_by arts (Some key) message signature = arts.valid key message signature

-- an object's signer is a node, and its signature is valid under that node's key
abbrev pub is_signed : Arts → Fixed → Kept → Bool
is_signed arts f o = is_signed_by arts (key_of (signer_of o.body).0 f.topology.nodes) (arts.spell o.body) o.signature

-- ---- a version of the topology

-- these weights of edges and these removed nodes are those of the topology from now on: what waited for withdrawn edges leaves, and flows with a removed end
-- end
abbrev pub closed : Parts → List ℕ → List NodeId → Parts
closed p least removed = record p {
  weights = weights.replaced p.weights least;
  prio = prio.closed p.prio least removed;
  rel = rel.closed p.rel removed;
  kflow = kflow.with_flows p.kflow (rel.closed p.kflow.flows removed);
}

-- what is told where a version closes edges and removes nodes: of stores first, then of plain flows, and then of those on paths
abbrev pub closed_effects : Parts → List ℕ → List NodeId → List Effect
closed_effects p least removed =
    prio.closed_effects p.prio least removed
    ++ (rel.closed_effects kinds.Plain p.rel removed ++ rel.closed_effects kinds.Paths p.kflow.flows removed)

-- ---- the start

-- a neighbour and the edge to it
abbrev pub as_neighbour : NodeId × EdgeId → Neighbour
as_neighbour n = record { id = n.0; edge = n.1 }

-- nothing is kept, with room for so many messages of each flow, and so many entries in each store
abbrev pub bare_parts : Fixed → (buffer store : ℕ) → Parts
bare_parts f buffer store = record {
  weights = weights.start f.topology;
  prio = prio.start f.me.0 (nodes_of f.topology) (map as_neighbour (neighbours_of f)) store;
  rel = rel.start f.me (nodes_of f.topology) (map (λ n. n.0) (neighbours_of f)) buffer;
  kflow = kflow.start f.me (nodes_of f.topology) (map as_neighbour (neighbours_of f)) buffer;
  lives = lives.start (nodes_of f.topology);
  origins = replicate (length f.topology.nodes) None;
}

-- the same under what the topology withdraws
abbrev pub empty_parts : Fixed → (buffer store : ℕ) → Parts
empty_parts f buffer store =
    closed (bare_parts f buffer store) (weights_in f.topology.edges) (removed_of (nodes_of f.topology) f.topology.edges)
