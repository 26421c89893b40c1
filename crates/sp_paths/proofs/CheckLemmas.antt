-- What the tests of a set of paths decide, over what `check` reads of it.
use Rattle.std.proofs.Common.{◌≡◌, ℕ, Bool, List, sum_by, sym}
use Rattle.std.specs.Prelude.{◌↔◌, IsTrue}
use Rattle.std.specs.List.{All, AllPairs, list_all}
use Rattle.sp_base.specs.declared.id.NodeId.{NodeId}
use Rattle.sp_topology.specs.declared.topology.Edge.{Edge}
use Rattle.sp_graph.specs.declared.graph.Graph.{Graph}
use Rattle.sp_graph.specs.Disjoint.{Apart, cost}
use Rattle.sp_graph.specs.Walks.{IsPath, steps, weight_between}
use Rattle.sp_paths.specs.Tests.{all_apart, is_path}
use Rattle.sp_paths.proofs.Tested.{all_apart_is, all_paths_is}

module _ (g : Graph) (s t : NodeId) (edges : List Edge) (set paths : List (List NodeId)) (same_edges : edges ≡ g.edges) (same_set : set ≡ paths) where
  pub paths_read : (r : Bool) → r ≡ list_all (is_path edges s t) set → IsTrue r ↔ All (IsPath g s t) paths
  paths_read r is = rw (is, same_edges, same_set) (all_paths_is g s t paths)

  pub apart_read : (r : Bool) → r ≡ all_apart s t set → IsTrue r ↔ AllPairs (Apart s t) paths
  apart_read r is = rw (is, same_set) (all_apart_is s t paths)

  pub cost_read : (r : Bool) (amount : ℕ) → IsTrue r ↔ (amount ≡ sum_by (λ path. sum_by (λ step. weight_between edges step.0 step.1) (steps path)) set)
      → IsTrue r ↔ (amount ≡ cost g paths)
  cost_read r amount is = rw (sym same_edges, sym same_set) is
