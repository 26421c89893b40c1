-- What `disjoint` says where there are fewer paths than were asked for.
use Rattle.std.specs.Prelude.{ℕ, ◌≡◌, ◌<◌, ◌≤◌, Bool, true, List}
use Rattle.std.specs.List.{All, filter}
use Rattle.sp_base.specs.declared.id.NodeId.{NodeId}
use Rattle.sp_graph.specs.declared.graph.Graph.{Graph}
use Rattle.sp_graph.specs.declared.part.Part.{Part}
use Rattle.sp_graph.specs.Cuts.{IsCut, is_among, leaving}
use Rattle.sp_graph.specs.Disjoint.{Disjoint}
use Rattle.sp_graph.specs.Split.{parts_of}
use Rattle.sp_paths.specs.declared.refused.PathRefused.{PathRefused}
use Rattle.sp_paths.specs.declared.refused.PathRefused.TheVariants as refusals

-- fewer than k: so many paths are disjoint, and no more, which is how many arcs leave the cut; no cut is left by fewer, and this one lies inside
-- every other that is left by as few
pub record AreFewer (g : Graph) (s t : NodeId) (k found : ℕ) (cut : List Part) : Type 0 where
  pub fewer : found < k
  pub paths : List (List NodeId)
  pub disjoint : Disjoint g s t found paths
  pub no_more : (n : ℕ) (paths : List (List NodeId)) → Disjoint g s t n paths → n ≤ found
  pub in_order : cut ≡ filter (is_among cut) (parts_of g s t)
  pub is_cut : IsCut s t (is_among cut)
  pub size : leaving g s t (is_among cut) ≡ found
  pub least : (other : Part → Bool) → IsCut s t other → found ≤ leaving g s t other
  pub smallest : (other : Part → Bool) → IsCut s t other → leaving g s t other ≤ found → All (λ part. other part ≡ true) cut

-- where the refusal says how many there are, it is so
abbrev pub SaysFewer : Graph → NodeId → NodeId → ℕ → PathRefused → Type 0
SaysFewer g s t k (refusals.Fewer found cut) = AreFewer g s t k found cut
SaysFewer g s t k refusals.Unknown = Unit {0}
SaysFewer g s t k refusals.SameEnds = Unit {0}
SaysFewer g s t k refusals.Memory = Unit {0}
