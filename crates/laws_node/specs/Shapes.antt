-- What no step of a node changes: who it is, its bounds, and for what it has rows. From its start on these are those that it was given.
use Rattle.std.specs.Prelude.{ℕ, ◌≡◌, ◌*◌, List, map, length, zip}
use Rattle.sp_base.specs.declared.id.Flow.{Flow}
use Rattle.sp_base.specs.declared.id.NodeId.{NodeId}
use Rattle.sp_rules.specs.Arts.{Arts}
use Rattle.sp_rules.specs.Flow.{ends}
use Rattle.sp_rules.specs.Link.{Link}
use Rattle.sp_rules.specs.Node.{NodeState, Signer, booted, started}
use Rattle.sp_rules.specs.Kflow.{KState}
use Rattle.sp_rules.specs.Parts.{Fixed, as_neighbour, neighbours_of, nodes_of}
use Rattle.sp_rules.specs.Prio.{PrioState}
use Rattle.sp_rules.specs.PrioPeer.{PrioPeer}
use Rattle.sp_rules.specs.Rel.{RelPeer, RelState, View, pairs_of}
use Rattle.sp_rules.specs.Steps.{Input, NodeStep, Output}
use Rattle.sp_rules.specs.Weights.{WeightState}
use Rattle.sp_rules.specs.declared.prio.Neighbour.{Neighbour}
use Rattle.sp_topology.specs.declared.topology.Edge.{Edge}

pub record LinkShape : Type 0 where
  pub me : NodeId
  pub peer : NodeId
  pub boot : ℕ
  pub key : List ℕ

-- a link without its count, its neighbour's boot and the pair that it keeps
abbrev pub link_shape : Link → LinkShape
link_shape l = record { me = l.me; peer = l.peer; boot = l.boot; key = l.key }

-- what doesn't change of weights
pub record WeightShape : Type 0 where
  pub edges : List Edge
  pub rows : ℕ
  pub cycles : ℕ

-- the edges, how many updates there is room for, and for how many places there is a cycle
abbrev pub weight_shape : WeightState → WeightShape
weight_shape w = record { edges = w.edges; rows = length w.rows; cycles = length w.cycles }

-- what doesn't change of a neighbour's store
pub record PeerShape : Type 0 where
  pub peer : ℕ
  pub edge : ℕ
  pub capacity : ℕ

-- the neighbour, the edge to it, and the bound of its store
abbrev pub peer_shape : PrioPeer → PeerShape
peer_shape q = record { peer = q.peer; edge = q.edge; capacity = q.store.capacity }

-- what doesn't change of the priority part
pub record PrioShape : Type 0 where
  pub me : ℕ
  pub nodes : List NodeId
  pub inbox : ℕ
  pub peers : List PeerShape
  pub windows : ℕ

-- the nodes, the bound of the inbox, what each neighbour's row is for, and how many windows there are
abbrev pub prio_shape : PrioState → PrioShape
prio_shape s = record { me = s.me; nodes = s.nodes; inbox = s.inbox.capacity; peers = map peer_shape s.peers; windows = length s.windows }

-- the flow of a view
abbrev pub view_ends : View → Flow
view_ends w = record { src = w.src; dst = w.dst }

-- what doesn't change of what a neighbour reported
pub record RelPeerShape : Type 0 where
  pub peer : NodeId
  pub views : List Flow

-- the neighbour and the flows that it has views of
abbrev pub rel_peer_shape : RelPeer → RelPeerShape
rel_peer_shape p = record { peer = p.peer; views = map view_ends p.views }

-- what doesn't change of the reliable part
pub record RelShape : Type 0 where
  pub me : NodeId
  pub nodes : List NodeId
  pub bound : ℕ
  pub flows : List Flow
  pub peers : List RelPeerShape

-- the nodes, the bound of each flow, the flows and the neighbours that have rows
abbrev pub rel_shape : RelState → RelShape
rel_shape r = record { me = r.me; nodes = r.nodes; bound = r.bound; flows = map ends r.flows; peers = map rel_peer_shape r.peers }

-- what doesn't change of flows on paths
pub record KShape : Type 0 where
  pub flows : RelShape
  pub edges : List Neighbour
  pub nodes : List NodeId

-- the flows, the edge to each neighbour, and the nodes that have a number of paths
abbrev pub kflow_shape : KState → KShape
kflow_shape f = record { flows = rel_shape f.flows; edges = f.edges; nodes = map (λ row. row.dst) f.paths }

-- what doesn't change of a node
pub record Shape : Type 0 where
  pub fixed : Fixed
  pub seed : List ℕ
  pub bound : ℕ
  pub total : ℕ
  pub links : List LinkShape
  pub heard : List NodeId
  pub weights : WeightShape
  pub prio : PrioShape
  pub rel : RelShape
  pub kflow : KShape
  pub lives : List NodeId
  pub origins : ℕ

-- a node without what changes of it
abbrev pub shape_of : NodeState → Shape
shape_of n = record {
  fixed = n.fixed;
  seed = n.signer.seed;
  bound = n.signer.bound;
  total = n.signer.total;
  links = map link_shape n.links;
  heard = map (λ h. h.peer) n.heard;
  weights = weight_shape n.parts.weights;
  prio = prio_shape n.parts.prio;
  rel = rel_shape n.parts.rel;
  kflow = kflow_shape n.parts.kflow;
  lives = map (λ l. l.node) n.parts.lives;
  origins = length n.parts.origins;
}

-- ---- the laws

-- the law that no step changes a node's shape
abbrev pub ShapesStay : Type 0
ShapesStay = (arts : Arts) (old : NodeState) (input : Input) (output : Output) (new : NodeState) → NodeStep arts old input output new
    → shape_of new ≡ shape_of old

-- rows for the ordered pairs of two nodes and for the neighbours
abbrev pub flows_at_start : Fixed → (buffer : ℕ) → RelShape
flows_at_start f buffer =
    let pairs = pairs_of (nodes_of f.topology) in
    record {
      me = f.me;
      nodes = nodes_of f.topology;
      bound = buffer;
      flows = pairs;
      peers = map (λ n. record { peer = n.0; views = pairs }) (neighbours_of f);
    }

-- rows for the ordered pairs of two nodes and for the neighbours, each with a view of each pair and a kept version, a window, a life and a cycle for each
-- node, and the bounds that were given
abbrev pub shape_at_start : Fixed → Signer → List (List ℕ) → (buffer store : ℕ) → Shape
shape_at_start f signer keys buffer store =
    let nodes = nodes_of f.topology in
    let ns = neighbours_of f in
    record {
      fixed = f;
      seed = signer.seed;
      bound = signer.bound;
      total = signer.total;
      links = map (λ n. record { me = f.me; peer = n.0.0; boot = f.boot; key = n.1 }) (zip ns keys);
      heard = map (λ n. n.0) ns;
      weights = record { edges = f.topology.edges; rows = 2 * length f.topology.edges; cycles = length f.topology.nodes };
      prio = record {
        me = f.me.0;
        nodes = nodes;
        inbox = store;
        peers = map (λ n. record { peer = n.0.0; edge = n.1.0; capacity = store }) ns;
        windows = length nodes;
      };
      rel = flows_at_start f buffer;
      kflow = record { flows = flows_at_start f buffer; edges = map as_neighbour ns; nodes = nodes };
      lives = nodes;
      origins = length f.topology.nodes;
    }

-- the law of a node's shape at its start
abbrev pub ShapesBegin : Type 0
ShapesBegin =
    (f : Fixed) (signer : Signer) (keys : List (List ℕ)) (buffer store : ℕ)
    → shape_of (booted f signer keys buffer store) ≡ shape_at_start f signer keys buffer store

-- also where the node signed its boot
abbrev pub ShapesStart : Type 0
ShapesStart =
    (arts : Arts) (f : Fixed) (signer : Signer) (keys : List (List ℕ)) (buffer store : ℕ)
    → shape_of (started arts f signer keys buffer store) ≡ shape_at_start f signer keys buffer store
