-- A cut: a set of parts with the source and without the destination. Each path leaves it along an arc of its own.
use Rattle.std.specs.Prelude.{ℕ, ◌≡◌, ◌&&◌, Bool, true, false, not, List}
use Rattle.std.specs.List.{count_by, list_any}
use Rattle.sp_base.specs.declared.id.NodeId.{NodeId}
use Rattle.sp_graph.specs.declared.graph.Graph.{Graph}
use Rattle.sp_graph.specs.declared.part.Part.{Part}
use Rattle.sp_graph.specs.declared.part.Part.TheVariants as parts
use Rattle.sp_graph.specs.Split.{arcs_of, is_same}

-- whether the part is one of these
abbrev pub is_among : List Part → Part → Bool
is_among cut part = list_any (is_same part) cut

-- a set of parts that holds the source's exit and not the destination's entry
pub record IsCut (s t : NodeId) (cut : Part → Bool) : Type 0 where
  pub source : cut (parts.Out s) ≡ true
  pub destination : cut (parts.In t) ≡ false

-- how many arcs lead out of the set
abbrev pub leaving : Graph → NodeId → NodeId → (Part → Bool) → ℕ
leaving g s t cut = count_by (λ a. cut a.from && not (cut a.to)) (arcs_of g s t)
