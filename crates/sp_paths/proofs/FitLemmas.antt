-- The arcs that fit, node by node and edge by edge, are a certificate.
use Rattle.std.proofs.Common.{◌≡◌, ◌+◌, ◌-◌, ◌*◌, ◌≤◌, ℕ, true, cond, List, [], ◌∷◌, length, map, refl, sym, ap, subst, ◌∙◌, inl, inr, arith}
use Rattle.std.specs.Prelude.{◌⊎◌, ◌≢◌, ℤ, pos, ◌≤ℤ◌}
use Rattle.std.specs.List.{All, flat_map}
use Rattle.std.proofs.lemmas.Bool.{cases_eq}
use Rattle.sp_base.specs.declared.id.NodeId.{NodeId}
use Rattle.sp_topology.specs.declared.topology.Edge.{Edge}
use Rattle.sp_graph.specs.declared.graph.Graph.{Graph}
use Rattle.sp_graph.specs.declared.part.Part.{Part}
use Rattle.sp_graph.specs.Certificates.{IsCertificate, IsOptimal, number_of, reduced_cost, residual, turned, uses}
use Rattle.sp_graph.specs.Split.{Arc, arcs_of, edge_arc, edge_arcs, node_arc, nodes_to, parts_of}
use Rattle.laws_paths.proofs.Kept.{all_arcs, has_filter, has_node}
use Rattle.laws_paths.proofs.Lists.{Has, has_either, has_left, has_map, has_right, held}
use Rattle.sp_paths.specs.declared.paths.Paths.{Paths}
use Rattle.sp_paths.specs.Cheapest.{AreEnds, IsNode}
use Rattle.sp_paths.specs.Parts.{is_there}
use Rattle.sp_paths.specs.Tests.{FitBoth, FitsAt}
use Rattle.sp_paths.proofs.PathLemmas.{all_from}
use Rattle.sp_paths.proofs.Placed.{parts_count}
use Rattle.sp_paths.proofs.Ranges.{node_range}
use Rattle.sp_paths.proofs.Shapes.{from_filter, from_map}

pub one_node_more : (P : NodeId → Type 0) (n : ℕ) → ((v : NodeId) → 1 ≤ v.0 → v.0 ≤ n → P v) → P (record { 0 = n + 1 }) → (v : NodeId) → 1 ≤ v.0 → v.0 ≤ n + 1
    → P v
one_node_more P n olds this v low high = go (cases_eq v.0 (n + 1))
  where
    go : (v.0 ≡ n + 1) ⊎ (v.0 ≢ n + 1) → P v
    go (inl e) = let node : ℕ → NodeId = λ m. record { 0 = m } in let same : v ≡ node (n + 1) = ap node e in subst P (sym same) this
    go (inr other) = olds v low (omega (arith, high, other))

-- the arc of an edge leads along it one way or the other
from_edge : (edges : List Edge) (a : Arc) → Has (flat_map edge_arcs edges) a
    → (e : Edge) × Has edges e × ((edge_arc e.low e.high e.weight ≡ a) ⊎ (edge_arc e.high e.low e.weight ≡ a))
from_edge [] a h = absurd h
from_edge (e ∷ edges) a (inl f) = (e, inl refl, inl f)
from_edge (e ∷ edges) a (inr (inl f)) = (e, inl refl, inr f)
from_edge (e ∷ edges) a (inr (inr h)) = let (f, at, is) = from_edge edges a h in (f, inr at, is)

has_edge : (edges : List Edge) (e : Edge) → Has edges e
    → Has (flat_map edge_arcs edges) (edge_arc e.low e.high e.weight) × Has (flat_map edge_arcs edges) (edge_arc e.high e.low e.weight)
has_edge [] e h = absurd h
has_edge (f ∷ edges) e (inl is) = (inl (ap (λ (x : Edge). edge_arc x.low x.high x.weight) is), inr (inl (ap (λ (x : Edge). edge_arc x.high x.low x.weight) is)))
has_edge (f ∷ edges) e (inr h) = let both = has_edge edges e h in (inr (inr both.0), inr (inr both.1))

module _ (g : Graph) (s t : NodeId) (p : Paths) where
  potential : Part → ℤ
  potential = number_of (parts_of g s t) p.potentials

  is_low : Arc → Type 0
  is_low a = pos 0 ≤ℤ reduced_cost potential a

  in_residual : Arc → Arc
  in_residual a = cond (uses p.paths a) (turned a) a

  AllNodes : Type 0
  AllNodes = (v : NodeId) → IsNode g v → FitsAt g s t p (node_arc v)

  -- each arc fits
  fit_of : AllNodes → All (FitBoth g s t p) g.edges → (a : Arc) → Has (all_arcs g) a → FitsAt g s t p a
  unfolding AllNodes FitBoth
  fit_of nodes edges a h = go (has_either (map node_arc (nodes_to g.nodes)) (flat_map edge_arcs g.edges) a h)
    where
      of_edge : (e : Edge) → Has g.edges e → (edge_arc e.low e.high e.weight ≡ a) ⊎ (edge_arc e.high e.low e.weight ≡ a) → FitsAt g s t p a
      of_edge e at (inl is) = subst (FitsAt g s t p) is (held (FitBoth g s t p) g.edges e edges at).0
      of_edge e at (inr is) = subst (FitsAt g s t p) is (held (FitBoth g s t p) g.edges e edges at).1

      go : Has (map node_arc (nodes_to g.nodes)) a ⊎ Has (flat_map edge_arcs g.edges) a → FitsAt g s t p a
      go (inl k) = let (v, at, is) = from_map node_arc (nodes_to g.nodes) a k in subst (FitsAt g s t p) is (nodes v (node_range g.nodes v at))
      go (inr k) = let (e, at, is) = from_edge g.edges a k in of_edge e at is

  optimal_when : AllNodes → All (FitBoth g s t p) g.edges → IsOptimal g s t p.paths (number_of (parts_of g s t) p.potentials)
  unfolding potential is_low in_residual FitsAt
  optimal_when nodes edges = all_from is_low (residual g s t p.paths) (λ x h.
      let (a, at, e) = from_map in_residual (arcs_of g s t) x h in
      let there = from_filter (is_there s t) (all_arcs g) a at in
      let fits : is_there s t a ≡ true → is_low (in_residual a) = fit_of nodes edges a there.0 in
      subst is_low e (fits there.1))

  fit_when : IsOptimal g s t p.paths (number_of (parts_of g s t) p.potentials) → (a : Arc) → Has (all_arcs g) a → FitsAt g s t p a
  unfolding potential is_low in_residual FitsAt
  fit_when best a h there =
      held is_low (residual g s t p.paths) (in_residual a) best (has_map in_residual (arcs_of g s t) a (has_filter (is_there s t) (all_arcs g) a h there))

  pub certificate_when : AreEnds g s t → length p.potentials ≡ 2 * g.nodes - 2 → ((v : NodeId) → IsNode g v → FitsAt g s t p (node_arc v))
      → All (FitBoth g s t p) g.edges → IsCertificate g s t p.paths p.potentials
  unfolding AllNodes
  certificate_when ends count nodes edges = record { one_each = count ∙ sym (parts_count g s t ends); optimal = optimal_when nodes edges }

  pub count_when : AreEnds g s t → IsCertificate g s t p.paths p.potentials → length p.potentials ≡ 2 * g.nodes - 2
  count_when ends good = good.one_each ∙ parts_count g s t ends

  pub nodes_when : IsCertificate g s t p.paths p.potentials → (v : NodeId) → IsNode g v → FitsAt g s t p (node_arc v)
  nodes_when good v inside =
      fit_when good.optimal (node_arc v)
      (has_left (map node_arc (nodes_to g.nodes)) (flat_map edge_arcs g.edges) (node_arc v)
      (has_map node_arc (nodes_to g.nodes) v (has_node g.nodes v inside.0 inside.1)))

  pub edges_when : IsCertificate g s t p.paths p.potentials → All (FitBoth g s t p) g.edges
  unfolding FitBoth
  edges_when good = all_from (FitBoth g s t p) g.edges (λ e h.
      let both = has_edge g.edges e h in (
        fit_when good.optimal (edge_arc e.low e.high e.weight)
            (has_right (map node_arc (nodes_to g.nodes)) (flat_map edge_arcs g.edges) (edge_arc e.low e.high e.weight) both.0),
        fit_when good.optimal (edge_arc e.high e.low e.weight)
            (has_right (map node_arc (nodes_to g.nodes)) (flat_map edge_arcs g.edges) (edge_arc e.high e.low e.weight) both.1),
      ))
