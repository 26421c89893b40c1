-- One node: what it keeps from call to call. Nothing else of the world is in its rules.
use Rattle.std.specs.Prelude.{ℕ, ◌==◌, ◌+◌, nat_lt, Bool, true, not, ◌&&◌, List, [], ◌∷◌, map, zip, Option, None, Some, if◌then◌else◌}
use Rattle.std.specs.List.{list_any}
use Rattle.sp_base.specs.Rows.{first_where, replace_where}
use Rattle.sp_base.specs.declared.id.EdgeId.{EdgeId}
use Rattle.sp_base.specs.declared.id.NodeId.{NodeId}
use Rattle.sp_msg.specs.declared.body.Body.{Body}
use Rattle.sp_msg.specs.declared.body.Body.TheVariants as bodies
use Rattle.sp_msg.specs.declared.effect.Effect.{Effect}
use Rattle.sp_msg.specs.declared.effect.Effect.TheVariants.{Signed}
use Rattle.sp_msg.specs.declared.kept.Kept.{Kept}
use Rattle.sp_topology.specs.declared.topology.Topology.{Topology}
use Rattle.sp_rules.specs.Arts.{Arts}
use Rattle.sp_rules.specs.Link.{Link, new_link}
use Rattle.sp_rules.specs.Lives.{held}
use Rattle.sp_rules.specs.Parts.{Fixed, Parts, changes, edge_to, empty_parts, neighbours_of}
use Rattle.sp_rules.specs.Topologies.{is_shut, under, weights_in}
use Rattle.sp_rules.specs.Versions.{Heard, Live, none_heard, version_in}
use Rattle.sp_rules.specs.declared.node.NodeRefused.{NodeRefused}
use Rattle.sp_rules.specs.declared.node.NodeRefused.TheVariants as refusals
use Rattle.sp_rules.specs.declared.node.TheConstants.{MAX_CALLS}

-- the seed of the node's key, the index of its next signature, the bound that it stops at, and how many indexes there are
pub record Signer : Type 0 where
  pub seed : List ℕ
  pub index : ℕ
  pub bound : ℕ
  pub total : ℕ

-- the time is the greatest that a tick gave. Calls are the polls and datagrams that were answered. Links ascend by their neighbours, and so do the versions
-- that are kept of these
pub record NodeState : Type 0 where
  pub fixed : Fixed
  pub live : Live
  pub heard : List Heard
  pub now : ℕ
  pub calls : ℕ
  pub links : List Link
  pub signer : Signer
  pub parts : Parts

-- ---- the start

-- the link to a neighbour, with the key of the edge to it
abbrev pub link_of : Fixed → (NodeId × EdgeId) × List ℕ → Link
link_of f n = new_link f.me n.0.0 f.boot n.1

-- a node at the start of a life, with a key for each of its edges in their order
abbrev pub booted : Fixed → Signer → List (List ℕ) → (buffer store : ℕ) → NodeState
booted f signer keys buffer store = record {
  fixed = f;
  live = record { version = f.topology.version; weights = weights_in f.topology.edges; document = f.document };
  heard = map (λ n. none_heard n.0) (neighbours_of f);
  now = 0;
  calls = 0;
  links = map (link_of f) (zip (neighbours_of f) keys);
  signer = signer;
  parts = empty_parts f buffer store;
}

-- more indexes are reserved
abbrev pub extended : NodeState → ℕ → NodeState
extended n upto = record n { signer = record n.signer { bound = upto } }

-- ---- the topology as it is now

-- the topology of the version that the node runs under
abbrev pub topology_now : NodeState → Topology
topology_now n = record n.fixed.topology { version = n.live.version; edges = under n.fixed.topology.edges n.live.weights }

-- the edge to a neighbour is withdrawn. So is one that isn't there
abbrev pub is_shut_at : NodeState → Option ℕ → Bool
is_shut_at n None = true
is_shut_at n (Some edge) = is_shut n.live.weights edge

-- whether the edge to a neighbour is withdrawn
abbrev pub is_shut_to : NodeState → NodeId → Bool
is_shut_to n v = is_shut_at n (edge_to n.fixed v)

-- the version that is kept of a neighbour
abbrev pub version_of : NodeState → NodeId → ℕ
version_of n v = version_in n.heard v

-- the neighbour runs under an older version, as far as was heard
abbrev pub is_behind : NodeState → NodeId → Bool
is_behind n v = changes n.fixed && nat_lt 0 (version_of n v) && nat_lt (version_of n v) n.live.version

-- ---- links

-- whether this is the link to that neighbour
abbrev pub is_link : NodeId → Link → Bool
is_link v l = l.peer.0 == v.0

-- whether the node has a link to that one
abbrev pub is_neighbour : NodeState → NodeId → Bool
is_neighbour n v = list_any (is_link v) n.links

-- the link to a neighbour
abbrev pub link_in : NodeState → NodeId → Link
link_in n v = first_where (is_link v) (new_link n.fixed.me v 0 []) n.links

-- the links with that to a neighbour changed
abbrev pub with_link : NodeState → NodeId → Link → List Link
with_link n v l = replace_where (is_link v) l n.links

-- why a poll or a datagram isn't answered: the first that applies
abbrev pub call_refusal : NodeState → NodeId → Option NodeRefused
call_refusal n v =
    if not (is_neighbour n v) then Some refusals.NotNeighbour
    else if n.calls == MAX_CALLS then Some refusals.Worn
    else None

-- a poll or a datagram was answered, and left these links and parts
abbrev pub called : NodeState → List Link → Parts → NodeState
called n links parts = record n { calls = n.calls + 1; links = links; parts = parts }

-- ---- signatures

-- a message with the signature of the next index
abbrev pub signed_now : Arts → NodeState → Body → Kept
signed_now arts n body = record {
  body = body;
  signature = arts.sign n.fixed.topology.height n.signer.seed n.signer.index (arts.spell body);
}

-- a signature was made, and left these parts
abbrev pub signed_once : NodeState → Parts → NodeState
signed_once n parts = record n { signer = record n.signer { index = n.signer.index + 1 }; parts = parts }

-- ---- the start with epochs: the node signs the boot of this life, and holds it

-- the Epoch object of the node's own life
abbrev pub own_epoch : Fixed → Body
own_epoch f = bodies.Epoch (record { origin = f.me; boot = f.boot })

-- a node as it booted, after that
abbrev pub announced : Arts → NodeState → NodeState
announced arts n = signed_once n (record n.parts { lives = held n.parts.lives (signed_now arts n (own_epoch n.fixed)) })

-- a node at the start of a life: with epochs it has signed that life's Epoch object
abbrev pub started : Arts → Fixed → Signer → List (List ℕ) → (buffer store : ℕ) → NodeState
started arts f signer keys buffer store =
    if f.epochs then announced arts (booted f signer keys buffer store) else booted f signer keys buffer store

-- what is told at a start: with epochs, the object that was signed
abbrev pub start_effects : Arts → Fixed → List Effect
start_effects arts f = if f.epochs then Signed (arts.spell (own_epoch f)) ∷ [] else []

-- ---- refusals

-- what a step that may be refused leaves, or answers
abbrev pub kept_or : {X Y : Type 0} → Option X → Y → Y → Y
kept_or (Some refusal) refused done = refused
kept_or None refused done = done
