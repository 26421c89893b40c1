-- The topologies that nodes run under: which one a node may begin with, what a version withdraws, and which version may follow which. Each later one has the
-- same nodes and edges with other weights, and an edge of weight 0 is withdrawn.
--
--     version 1     1-2 10    1-3 10    2-3 10     all are there
--     version 2     1-2 10    1-3 0     2-3 0      3 is removed: it has edges, and all of them are withdrawn
use Rattle.std.specs.Prelude.{ℕ, ◌==◌, ◌&&◌, ◌||◌, nat_eq, nat_lt, Bool, true, false, not, List, map, filter, zip, slice_index_or}
use Rattle.std.specs.Cmp.Lexicographic.{pointwise}
use Rattle.std.specs.List.{list_any}
use Rattle.sp_base.specs.declared.id.NodeId.{NodeId}
use Rattle.sp_topology.specs.Ranges.{IsTopology}
use Rattle.sp_topology.specs.declared.topology.Edge.{Edge}
use Rattle.sp_topology.specs.declared.topology.LmsHeight.{LmsHeight}
use Rattle.sp_topology.specs.declared.topology.LmsHeight.TheVariants as heights
use Rattle.sp_topology.specs.declared.topology.NodeKey.{NodeKey}
use Rattle.sp_topology.specs.declared.topology.Topology.{Topology}

-- a node may begin with it, whatever it withdraws
pub record IsRunnable (t : Topology) : Type 0 where
  pub ranges : IsTopology t

-- ---- weights

-- the weight of each edge, in their order
abbrev pub weights_in : List Edge → List ℕ
weights_in edges = map (λ e. e.weight) edges

-- the edge in this place is withdrawn. So is one that isn't there
abbrev pub is_shut : List ℕ → ℕ → Bool
is_shut weights edge = slice_index_or weights edge 0 == 0

-- an edge with another weight
abbrev pub weighted : Edge × ℕ → Edge
weighted p = record { low = p.0.low; high = p.0.high; weight = p.1 }

-- the edges with these weights
abbrev pub under : List Edge → List ℕ → List Edge
under edges weights = map weighted (zip edges weights)

-- ---- removed nodes

-- whether a node is an end of an edge
abbrev pub is_end : ℕ → Edge → Bool
is_end u e = (e.low.0 == u) || (e.high.0 == u)

-- an end of an edge that isn't withdrawn
abbrev pub is_joined : ℕ → Edge → Bool
is_joined u e = is_end u e && not (e.weight == 0)

-- it has an edge, and all its edges are withdrawn
abbrev pub is_removed : List Edge → ℕ → Bool
is_removed edges u = list_any (is_end u) edges && not (list_any (is_joined u) edges)

-- the nodes of these that are removed
abbrev pub removed_of : List NodeId → List Edge → List NodeId
removed_of nodes edges = filter (λ u. is_removed edges u.0) nodes

-- ---- which may follow which

-- whether two heights are the same
abbrev pub is_same_height : LmsHeight → LmsHeight → Bool
is_same_height heights.Five heights.Five = true
is_same_height heights.Ten heights.Ten = true
is_same_height _ _ = false

-- whether two nodes have the same id and key
abbrev pub is_same_node : NodeKey → NodeKey → Bool
is_same_node a b = (a.id.0 == b.id.0) && pointwise nat_eq a.key b.key

-- whether two edges have the same ends
abbrev pub has_same_ends : Edge → Edge → Bool
has_same_ends a b = (a.low.0 == b.low.0) && (a.high.0 == b.high.0)

-- the node is removed in the first, and isn't in the second
abbrev pub returns : List Edge → List Edge → NodeKey → Bool
returns old new n = is_removed old n.id.0 && not (is_removed new n.id.0)

-- the same format, height, nodes, keys and ends of edges under a higher version, and no removed node returns
abbrev pub succeeds : Topology → Topology → Bool
succeeds old new =
    nat_lt old.version new.version
    && (old.format == new.format)
    && is_same_height old.height new.height
    && pointwise is_same_node old.nodes new.nodes
    && pointwise has_same_ends old.edges new.edges
    && not (list_any (returns old.edges new.edges) old.nodes)
