-- What a node makes of what its topology withdraws, over any steps: the administrator alone changes the topology, versions rise, a removed node never returns;
-- nothing waits for a withdrawn edge or has a removed end, and no flow with a removed end goes on.
use Rattle.std.specs.Prelude.{ℕ, ◌≡◌, ◌<◌, ◌≤◌, true, false, IsTrue, List, [], Some, ◌⊎◌, length}
use Rattle.std.specs.List.{All}
use Rattle.sp_base.specs.declared.id.NodeId.{NodeId}
use Rattle.sp_rules.specs.Arts.{Arts, Document}
use Rattle.sp_rules.specs.Flow.{FlowState, ends}
use Rattle.sp_rules.specs.Node.{NodeState, Signer, started, topology_now}
use Rattle.sp_rules.specs.Parts.{Fixed, Parts, nodes_of}
use Rattle.sp_rules.specs.PrioPeer.{PrioPeer, has_end_in}
use Rattle.sp_rules.specs.Rel.{is_one_of, is_over}
use Rattle.sp_rules.specs.Steps.{Input, NodeStep, Output}
use Rattle.sp_rules.specs.Topologies.{is_shut, removed_of, succeeds}

-- the nodes that are removed in the topology as it is now
abbrev pub removed_now : NodeState → List NodeId
removed_now n = removed_of (nodes_of n.fixed.topology) (topology_now n).edges

-- a weight for each edge, and the parts are those of this node: what a node always keeps has it
pub record IsSized (n : NodeState) : Type 0 where
  pub weights : length n.live.weights ≡ length n.fixed.topology.edges
  pub me : n.parts.rel.me ≡ n.fixed.me
  pub on_paths : n.parts.kflow.flows.me ≡ n.fixed.me

-- ---- who changes a topology

-- The node came to run under a document that the administrator signed, of a topology that follows the one before: the same nodes, keys and edges under a
-- higher version, in which no removed node returns.
pub record Adopts (arts : Arts) (old new : NodeState) : Type 0 where
  pub bytes : List ℕ
  pub document : Document
  pub reads : arts.read_document bytes ≡ Some document
  pub signed : IsTrue (arts.valid old.fixed.admin document.message document.signature)
  pub follows : IsTrue (succeeds (topology_now old) document.topology)
  pub rises : old.live.version < new.live.version
  pub version : new.live.version ≡ document.topology.version
  pub bytes_are : new.live.document ≡ bytes
  pub topology : topology_now new ≡ document.topology

-- each step leaves the topology as it is, or the administrator changed it
abbrev pub OnlyTheAdministratorChanges : Type 0
OnlyTheAdministratorChanges = (arts : Arts) (old : NodeState) (input : Input) (output : Output) (new : NodeState) → IsSized old
    → NodeStep arts old input output new → (new.live ≡ old.live) ⊎ Adopts arts old new

-- so its version never falls, and who is removed stays removed
pub record RisesTo (old new : NodeState) : Type 0 where
  pub version : old.live.version ≤ new.live.version
  pub removed : (u : NodeId) → is_one_of (removed_now old) u ≡ true → is_one_of (removed_now new) u ≡ true

-- the law that a step leaves the version as it is, or takes a later one
abbrev pub VersionsRise : Type 0
VersionsRise = (arts : Arts) (old : NodeState) (input : Input) (output : Output) (new : NodeState) → IsSized old
    → NodeStep arts old input output new → RisesTo old new

-- ---- what the parts make of it

-- The store of a neighbour is shut exactly where the edge is withdrawn, and then nothing waits in it. What waits has no removed end.
pub record RowObeys (weights : List ℕ) (removed : List NodeId) (q : PrioPeer) : Type 0 where
  pub shut : q.shut ≡ is_shut weights q.edge
  pub empty : q.shut ≡ true → q.store.entries ≡ []
  pub ends : All (λ e. has_end_in removed e ≡ false) q.store.entries

-- a flow with a removed end isn't active
abbrev pub FlowObeys : List NodeId → FlowState → Type 0
FlowObeys removed f = is_over removed (ends f) ≡ true → f.active ≡ false

-- parts that know these weights and removed nodes, and keep nothing that they withdraw
pub record PartsObey (weights : List ℕ) (removed : List NodeId) (p : Parts) : Type 0 where
  pub least : p.weights.least ≡ weights
  pub prio : p.prio.removed ≡ removed
  pub rows : All (RowObeys weights removed) p.prio.peers
  pub rel : p.rel.removed ≡ removed
  pub flows : All (FlowObeys removed) p.rel.flows
  pub kflow : p.kflow.flows.removed ≡ removed
  pub on_paths : All (FlowObeys removed) p.kflow.flows.flows

-- the parts know of the topology what it is now, and keep nothing that it withdraws
abbrev pub Obeys : NodeState → Type 0
Obeys n = PartsObey n.live.weights (removed_now n) n.parts

-- at the start, with epochs or without
abbrev pub StartObeys : Type 0
StartObeys = (arts : Arts) (f : Fixed) (signer : Signer) (keys : List (List ℕ)) (buffer store : ℕ) → Obeys (started arts f signer keys buffer store)

-- and after each step
abbrev pub EachStepObeys : Type 0
EachStepObeys = (arts : Arts) (old : NodeState) (input : Input) (output : Output) (new : NodeState) → IsSized old
    → NodeStep arts old input output new → Obeys old → Obeys new
