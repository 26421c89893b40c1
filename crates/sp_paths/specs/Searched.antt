-- What a search gives: disjoint paths with the potentials that prove them the cheapest, or how many there are with the smallest cut.
use Rattle.std.specs.Prelude.{ℕ, ◌≡◌, ◌<◌, ◌≤◌, Bool, true, List, length, pos}
use Rattle.std.specs.List.{AllPairs}
use Rattle.sp_base.specs.declared.id.NodeId.{NodeId}
use Rattle.sp_graph.specs.declared.graph.Graph.{Graph}
use Rattle.sp_graph.specs.declared.part.Part.{Part}
use Rattle.sp_graph.specs.Certificates.{IsOptimal}
use Rattle.sp_graph.specs.Cuts.{IsCut, leaving}
use Rattle.sp_graph.specs.Disjoint.{Disjoint, Least}
use Rattle.sp_paths.specs.declared.limits.TheConstants.{PARTS}
use Rattle.sp_paths.specs.Order.{IsBefore}
use Rattle.sp_paths.specs.Bounds.{most_potential}
use Rattle.sp_paths.specs.Lanes.{at, is_in}
use Rattle.sp_paths.specs.Parts.{number}

-- k disjoint paths, no others cheaper, and potentials by the numbers of parts that prove it
pub record IsFound (g : Graph) (s t : NodeId) (k : ℕ) (paths : List (List NodeId)) (potential : List ℕ) : Type 0 where
  pub disjoint : Disjoint g s t k paths
  pub ordered : AllPairs IsBefore paths
  pub optimal : IsOptimal g s t paths (λ part. pos (at potential (number part)))
  pub least : Least g s t k paths
  pub low : (v : ℕ) → at potential v ≤ most_potential
  pub numbers : length potential ≡ PARTS

-- so many paths and no more, and a cut of so many arcs that lies inside every other one
pub record IsFew (g : Graph) (s t : NodeId) (k found : ℕ) (reached : List Bool) : Type 0 where
  pub fewer : found < k
  pub paths : List (List NodeId)
  pub disjoint : Disjoint g s t found paths
  pub no_more : (n : ℕ) (paths : List (List NodeId)) → Disjoint g s t n paths → n ≤ found
  pub is_cut : IsCut s t (λ part. is_in reached (number part))
  pub size : leaving g s t (λ part. is_in reached (number part)) ≡ found
  pub least : (cut : Part → Bool) → IsCut s t cut → found ≤ leaving g s t cut
  pub smallest : (cut : Part → Bool) → IsCut s t cut → leaving g s t cut ≤ found
      → (part : Part) → number part < length reached → is_in reached (number part) ≡ true → cut part ≡ true
  pub marks : length reached ≡ PARTS
