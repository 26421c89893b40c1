-- A path that a flow may go: one of the topology, of which all nodes are correct.
use Rattle.std.specs.Prelude.{ℕ, IsTrue, List, length}
use Rattle.std.specs.List.{All}
use Rattle.sp_base.specs.declared.id.NodeId.{NodeId}
use Rattle.sp_graph.specs.Walks as graphs
use Rattle.sp_graph.specs.Walks.{steps}
use Rattle.sp_graph.specs.declared.graph.Graph.{Graph}
use Rattle.sp_rules.specs.Masks.{greatest_id}
use Rattle.sp_runs.specs.Settings.{Setting, is_correct}

-- the topology as a graph. Ids that no node has are nodes without an edge, on no path
abbrev pub graph_in : Setting → Graph
graph_in x = record { nodes = greatest_id x.topology.nodes; edges = x.topology.edges }

-- from s over nodes in between to d, along edges, through no node twice, and through no compromised one
pub record IsCorrectPath (x : Setting) (s d : NodeId) (path : List NodeId) : Type 0 where
  pub walks : graphs.IsPath (graph_in x) s d path
  pub correct : All (λ u. IsTrue (is_correct x u)) path

-- how many hops it has: each of its nodes with the next one
abbrev pub hops : List NodeId → ℕ
hops path = length (steps path)
