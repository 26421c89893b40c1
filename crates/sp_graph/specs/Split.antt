-- A graph whose nodes are cut in two, so that an arc for each node and each direction of an edge can be counted.
--
--     node u                     node v
--     in ---0---> out --weight--> in ---0---> out        an edge between u and v: also one from the out of v to the in of u
--
-- Each end is a single part: the source s its `Out`, the destination t its `In`. Their other parts are left out, with all arcs there.
use Rattle.std.specs.Prelude.{ℕ, ◌==◌, ◌&&◌, Bool, false, not, List, [], ◌∷◌, ◌++◌, map, ℤ, pos}
use Rattle.std.specs.List.{filter, flat_map, range_with_len}
use Rattle.sp_base.specs.declared.id.NodeId.{NodeId}
use Rattle.sp_topology.specs.declared.topology.Edge.{Edge}
use Rattle.sp_graph.specs.declared.graph.Graph.{Graph}
use Rattle.sp_graph.specs.declared.part.Part.{Part}
use Rattle.sp_graph.specs.declared.part.Part.TheVariants as parts

pub record Arc : Type 0 where
  pub from : Part
  pub to : Part
  pub cost : ℤ

-- the nodes of a graph of so many
abbrev pub nodes_to : ℕ → List NodeId
nodes_to nodes = map (λ v. record { 0 = v }) (range_with_len 1 nodes)

-- through a node
abbrev pub node_arc : NodeId → Arc
node_arc v = record { from = parts.In v; to = parts.Out v; cost = pos 0 }

-- from one node to another
abbrev pub edge_arc : NodeId → NodeId → ℕ → Arc
edge_arc u v weight = record { from = parts.Out u; to = parts.In v; cost = pos weight }

-- along an edge, each way
abbrev pub edge_arcs : Edge → List Arc
edge_arcs e = edge_arc e.low e.high e.weight ∷ edge_arc e.high e.low e.weight ∷ []

-- whether two parts are the same
abbrev pub is_same : Part → Part → Bool
is_same (parts.In u) (parts.In v) = u.0 == v.0
is_same (parts.In u) (parts.Out v) = false
is_same (parts.Out u) (parts.In v) = false
is_same (parts.Out u) (parts.Out v) = u.0 == v.0

-- whether the part is there between these ends
abbrev pub stays : NodeId → NodeId → Part → Bool
stays s t part = not (is_same part (parts.In s)) && not (is_same part (parts.Out t))

-- the parts in their order: by the node, and its in-part first
abbrev pub parts_of : Graph → NodeId → NodeId → List Part
parts_of g s t = filter (stays s t) (flat_map (λ v. parts.In v ∷ parts.Out v ∷ []) (nodes_to g.nodes))

-- the arcs between them
abbrev pub arcs_of : Graph → NodeId → NodeId → List Arc
arcs_of g s t = filter (λ a. stays s t a.from && stays s t a.to) (map node_arc (nodes_to g.nodes) ++ flat_map edge_arcs g.edges)
