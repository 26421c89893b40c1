-- What a life says of a node: the pair that is kept of each neighbour, the weight of each edge, and what is seen of each source.
use Rattle.std.specs.Prelude.{ℕ, ◌≡◌, true, max, List, Some, slice_get}
use Rattle.sp_base.specs.declared.id.NodeId.{NodeId}
use Rattle.sp_rules.specs.Arts.{Arts}
use Rattle.sp_rules.specs.Node.{NodeState, Signer, link_in, started}
use Rattle.sp_rules.specs.Parts.{Fixed, nodes_of}
use Rattle.sp_rules.specs.Prio.{is_node, window_in}
use Rattle.sp_rules.specs.Steps.{Input, Output}
use Rattle.sp_rules.specs.Weights.{effective, minimum}
use Rattle.sp_topology.specs.Ranges.{IsTopology}
use Rattle.sp_topology.specs.declared.topology.Edge.{Edge}
use Rattle.laws_node.specs.LinkArrivals.{greatest}
use Rattle.sp_rules.specs.Window.{window_of}
use Rattle.laws_node.specs.Lives.{Life, effects_of_life, last_told, marked_since, marks_of_life, pairs_of_life}

-- the pair that is kept of a neighbour is the greatest of (0, 0), the pairs of its frames that were fresh, and (b, 0) for each boot b that was
-- learned, whatever was polled between. Its boot is known
abbrev pub PairsOfLives : Type 0
PairsOfLives =
    (arts : Arts) (f : Fixed) (signer : Signer) (keys : List (List ℕ)) (buffer store : ℕ) (steps : List (Input × Output)) (last : NodeState) (v : NodeId)
    → Life arts (started arts f signer keys buffer store) steps last
    → ((link_in last v).seen ≡ greatest (0, 0) (pairs_of_life arts v steps)) × ((link_in last v).seen.0 ≡ (link_in last v).peer_boot)

-- the effective weight of an edge is the greatest of the minimum in the topology as it is now and the last weight of each end that was told as held
abbrev pub WeightsOfLives : Type 0
WeightsOfLives = (arts : Arts) (f : Fixed) (signer : Signer) (keys : List (List ℕ)) (buffer store : ℕ) (steps : List (Input × Output)) (last : NodeState)
    → IsTopology f.topology → Life arts (started arts f signer keys buffer store) steps last
    → (edge : ℕ) (e : Edge) → slice_get f.topology.edges edge ≡ Some e
    → let told = effects_of_life steps in
    effective last.parts.weights edge ≡ max (minimum last.parts.weights edge) (max (last_told edge e.low.0 0 told) (last_told edge e.high.0 0 told))

-- what the window of a node holds is the window of all its numbers that were marked since another life of it was heard of last, in their order
abbrev pub WindowsOfLives : Type 0
WindowsOfLives =
    (arts : Arts) (f : Fixed) (signer : Signer) (keys : List (List ℕ)) (buffer store : ℕ) (steps : List (Input × Output)) (last : NodeState) (src : ℕ)
    → Life arts (started arts f signer keys buffer store) steps last → is_node (nodes_of f.topology) src ≡ true
    → window_in last.parts.prio src ≡ window_of (marked_since (marks_of_life f.me.0 src steps))
