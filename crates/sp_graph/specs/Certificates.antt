-- What proves that disjoint paths are the cheapest: a number for each part, its potential, so that no residual arc has a reduced cost below 0.
--
--     an arc that no path uses      stands in the residual graph as it is
--     an arc that a path uses       stands in it turned round, with its cost negated
--     reduced cost                  the arc's cost, plus the potential where it begins, less the potential where it ends
use Rattle.std.specs.Prelude.{◌≡◌, ◌&&◌, Bool, List, [], ◌∷◌, map, length, cond, ℤ, pos, ◌+ℤ◌, ◌-ℤ◌, neg_ℤ, ◌≤ℤ◌}
use Rattle.std.specs.List.{All, flat_map, list_any}
use Rattle.sp_base.specs.declared.id.NodeId.{NodeId}
use Rattle.sp_graph.specs.declared.graph.Graph.{Graph}
use Rattle.sp_graph.specs.declared.part.Part.{Part}
use Rattle.sp_graph.specs.declared.part.Part.TheVariants as parts
use Rattle.sp_graph.specs.Split.{Arc, arcs_of, is_same, parts_of}
use Rattle.sp_graph.specs.Walks.{steps}

-- the parts that a path goes through: at each step out of a node and into the next
abbrev pub through : List NodeId → List Part
through path = flat_map (λ step. parts.Out step.0 ∷ parts.In step.1 ∷ []) (steps path)

-- whether one of the paths goes along the arc
abbrev pub uses : List (List NodeId) → Arc → Bool
uses paths a = list_any (λ path. list_any (λ step. is_same step.0 a.from && is_same step.1 a.to) (steps (through path))) paths

-- an arc the other way, at what it takes back
abbrev pub turned : Arc → Arc
turned a = record { from = a.to; to = a.from; cost = neg_ℤ a.cost }

-- the arcs along which paths could still change: those that they use are turned
abbrev pub residual : Graph → NodeId → NodeId → List (List NodeId) → List Arc
residual g s t paths = map (λ a. cond (uses paths a) (turned a) a) (arcs_of g s t)

-- what an arc costs beside what the potential rises along it
abbrev pub reduced_cost : (Part → ℤ) → Arc → ℤ
reduced_cost potential a = (a.cost +ℤ potential a.from) -ℤ potential a.to

-- no arc along which the paths could change costs less than its potential rises
abbrev pub IsOptimal : Graph → NodeId → NodeId → List (List NodeId) → (Part → ℤ) → Type 0
IsOptimal g s t paths potential = All (λ a. pos 0 ≤ℤ reduced_cost potential a) (residual g s t paths)

-- the number that stands where the part does
abbrev pub number_of : List Part → List ℤ → Part → ℤ
number_of [] numbers part = pos 0
number_of (p ∷ ps) [] part = pos 0
number_of (p ∷ ps) (n ∷ numbers) part = cond (is_same p part) n (number_of ps numbers part)

-- one potential for each part, in the order of the parts
pub record IsCertificate (g : Graph) (s t : NodeId) (paths : List (List NodeId)) (potentials : List ℤ) : Type 0 where
  pub one_each : length potentials ≡ length (parts_of g s t)
  pub optimal : IsOptimal g s t paths (number_of (parts_of g s t) potentials)
