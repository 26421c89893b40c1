-- What a certificate and a cut prove, of any paths through any graph.
use Rattle.std.specs.Prelude.{ℕ, ◌<◌, ◌≤◌, Bool, List, ℤ}
use Rattle.sp_base.specs.declared.id.NodeId.{NodeId}
use Rattle.sp_graph.specs.declared.graph.Graph.{Graph}
use Rattle.sp_graph.specs.declared.part.Part.{Part}
use Rattle.sp_graph.specs.Certificates.{IsOptimal}
use Rattle.sp_graph.specs.Cuts.{IsCut, leaving}
use Rattle.sp_graph.specs.Disjoint.{Disjoint, Least}
use Rattle.sp_graph.specs.Edges.{IsGraph}

-- disjoint paths with such potentials cost no more than any others of their number
abbrev pub CertifiedIsLeast : Type 0
CertifiedIsLeast =
    (g : Graph) (s t : NodeId) (k : ℕ) (paths : List (List NodeId)) (potential : Part → ℤ)
    → IsGraph g → Disjoint g s t k paths → IsOptimal g s t paths potential → Least g s t k paths

-- disjoint paths are at most as many as the arcs that leave any cut
abbrev pub CutBoundsPaths : Type 0
CutBoundsPaths =
    (g : Graph) (s t : NodeId) (k : ℕ) (paths : List (List NodeId)) (cut : Part → Bool)
    → IsGraph g → Disjoint g s t k paths → IsCut s t cut → k ≤ leaving g s t cut

-- a cut with fewer arcs than k proves that there are no k disjoint paths
abbrev pub SmallCutProvesFewer : Type 0
SmallCutProvesFewer =
    (g : Graph) (s t : NodeId) (k : ℕ) (cut : Part → Bool)
    → IsGraph g → IsCut s t cut → leaving g s t cut < k → (paths : List (List NodeId)) → Disjoint g s t k paths → ⊥
