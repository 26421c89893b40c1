-- Over which edge flows on paths go to a neighbour: at both ends it is the first edge that joins the two.
use Rattle.std.proofs.Common.{◌≡◌, ℕ, ◌+◌, Bool, true, false, List, [], ◌∷◌, ◌++◌, map, Option, Some, None, refl, sym, ap, ◌∙◌, inl, inr, arith}
use Rattle.std.specs.Prelude.{◌==◌}
use Rattle.std.specs.List.{list_any, position_or_len}
use Rattle.std.proofs.lemmas.Bool.{cases_Bool}
use Rattle.sp_base.specs.Rows.{first_where}
use Rattle.sp_base.specs.declared.id.NodeId.{NodeId}
use Rattle.sp_rules.specs.Arrivals.{greeted}
use Rattle.sp_rules.specs.Kflow.{KState, edge_to, is_neighbour, no_edge}
use Rattle.sp_rules.specs.Parts.{Parts, as_neighbour, neighbours_of}
use Rattle.sp_rules.specs.declared.prio.Neighbour.{Neighbour}
use Rattle.sp_runs.specs.Runs.{is_hop}
use Rattle.sp_runs.specs.Settings.{Setting, fixed_of}
use Rattle.sp_topology.specs.Neighbours.{joins, neighbour, neighbours_from, other_end}
use Rattle.sp_topology.specs.declared.topology.Edge.{Edge}
use Rattle.laws_progress.proofs.LinkKeys.{end_joins, leads}
use Rattle.laws_progress.proofs.Polls.{same_place}

edge_first : (u v : NodeId) (place : ℕ) (edges : List Edge) → list_any (joins u.0 v.0) edges ≡ true
    → (first_where (is_neighbour v) (no_edge v) (map as_neighbour (neighbours_from u.0 place edges))).edge.0 ≡ place + position_or_len (joins u.0 v.0) edges
edge_first u v place [] some = absurd (let f : false ≡ true = some in cc)
edge_first u v place (e ∷ edges) some = go (other_end u.0 e) (end_joins u v e) (λ t. edge_first u v (place + 1) edges t)
  where
    go : (o : Option NodeId) → joins u.0 v.0 e ≡ leads v o
        → (list_any (joins u.0 v.0) edges ≡ true
        → (first_where (is_neighbour v) (no_edge v) (map as_neighbour (neighbours_from u.0 (place + 1) edges))).edge.0
        ≡ place + 1 + position_or_len (joins u.0 v.0) edges)
        → (first_where (is_neighbour v) (no_edge v) (map as_neighbour (neighbour place o ++ neighbours_from u.0 (place + 1) edges))).edge.0
        ≡ place + position_or_len (joins u.0 v.0) (e ∷ edges)
    go None is rest =
        let off : joins u.0 v.0 e ≡ false = is in
        rw off (let h = rest (rw off at some) in omega (arith, h))
    go (Some w) is rest = elim (cases_Bool (w.0 == v.0)) [
      | inl t ↦ let on : joins u.0 v.0 e ≡ true = is ∙ t in rw (t, on) (omega arith)
      | inr t ↦ let off : joins u.0 v.0 e ≡ false = is ∙ t in rw (t, off) (let h = rest (rw off at some) in omega (arith, h))
    ]

-- the place of an edge among those of the topology
pub edge_is : (x : Setting) (u v : NodeId) (k : KState) → k.edges ≡ map as_neighbour (neighbours_of (fixed_of x u)) → is_hop x u v ≡ true
    → edge_to k v ≡ position_or_len (joins u.0 v.0) x.topology.edges
edge_is x u v k rows hop =
    let first = edge_first u v 0 x.topology.edges hop in
    let its : edge_to k v ≡ (first_where (is_neighbour v) (no_edge v) (map as_neighbour (neighbours_from u.0 0 x.topology.edges))).edge.0 =
    ap (λ (ns : List Neighbour). (first_where (is_neighbour v) (no_edge v) ns).edge.0) rows in
    omega (arith, its, first)

-- so it is the same at both ends
pub same_edge : (x : Setting) (u v : NodeId) (k l : KState) → k.edges ≡ map as_neighbour (neighbours_of (fixed_of x u))
    → l.edges ≡ map as_neighbour (neighbours_of (fixed_of x v)) → is_hop x u v ≡ true → is_hop x v u ≡ true → edge_to k v ≡ edge_to l u
same_edge x u v k l one two hop back = edge_is x u v k one hop ∙ same_place u.0 v.0 x.topology.edges ∙ sym (edge_is x v u l two back)

-- another life of a neighbour leaves the edges
pub greeted_edges : (epochs risen : Bool) (v : NodeId) (p : Parts) → (greeted epochs risen v p).kflow.edges ≡ p.kflow.edges
greeted_edges true true v p = refl
greeted_edges true false v p = refl
greeted_edges false risen v p = refl
