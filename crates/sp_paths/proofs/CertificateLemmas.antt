-- Potentials and a cut as lists by the order of parts say the same as by the numbers of parts.
use Rattle.std.proofs.Common.{◌≡◌, Bool, true, false, cond, List, [], ◌∷◌, map, refl, sym, ap, subst, ◌∙◌, inl, inr}
use Rattle.std.specs.Prelude.{◌⊎◌, ◌&&◌, ◌||◌, ◌==◌, ℤ, pos, ◌≤ℤ◌}
use Rattle.std.specs.List.{flat_map}
use Rattle.std.proofs.lemmas.List.{length-map}
use Rattle.sp_base.specs.declared.id.NodeId.{NodeId}
use Rattle.sp_graph.specs.declared.graph.Graph.{Graph}
use Rattle.sp_graph.specs.declared.part.Part.{Part}
use Rattle.sp_graph.specs.declared.part.Part.TheVariants as parts
use Rattle.sp_graph.specs.Certificates.{IsCertificate, IsOptimal, number_of, reduced_cost, residual, turned, uses}
use Rattle.sp_graph.specs.Edges.{IsGraph}
use Rattle.sp_graph.specs.Split.{Arc, arcs_of, edge_arcs, is_same, node_arc, nodes_to, parts_of, stays}
use Rattle.laws_paths.proofs.Kept.{Between, all_arcs, both_true, has_filter, has_node, in_range, is_same_itself, is_same_true}
use Rattle.laws_paths.proofs.Lists.{Has, has_either, has_map, held}
use Rattle.sp_paths.specs.Parts.{is_there}
use Rattle.sp_paths.proofs.PartLists.{both}
use Rattle.sp_paths.proofs.PathLemmas.{all_from}
use Rattle.sp_paths.proofs.Shapes.{from_edges, from_filter, from_map}

-- a number looked up by its part
number_found : (ps : List Part) (f : Part → ℤ) (q : Part) → Has ps q → number_of ps (map f ps) q ≡ f q
number_found [] f q h = absurd h
number_found (p ∷ ps) f q h = go (is_same p q) refl h (number_found ps f q)
  where
    go : (b : Bool) → is_same p q ≡ b → Has (p ∷ ps) q → (Has ps q → number_of ps (map f ps) q ≡ f q)
        → cond (is_same p q) (f p) (number_of ps (map f ps) q) ≡ f q
    go true e k rest = rw e (ap f (is_same_true p q e))
    go false e (inl same) rest = absurd (let x : true ≡ false = sym (is_same_itself p) ∙ ap (is_same p) same ∙ e in cc)
    go false e (inr k) rest = rw e (rest k)

pub has_both : (vs : List NodeId) (v : NodeId) → Has vs v → Has (flat_map both vs) (parts.In v) × Has (flat_map both vs) (parts.Out v)
has_both [] v h = absurd h
has_both (u ∷ vs) v (inl e) = (inl (ap parts.In e), inr (inl (ap parts.Out e)))
has_both (u ∷ vs) v (inr h) = let at = has_both vs v h in (inr (inr at.0), inr (inr at.1))

or_back : (a b : Bool) → (a || b) ≡ true → (b || a) ≡ true
or_back true true e = refl
or_back true false e = refl
or_back false true e = refl
or_back false false e = absurd cc

between_other : (g : Graph) (u v : NodeId) → Between g.edges u v → Between g.edges v u
between_other g u v (e, at, test) = (e, at, or_back ((e.low.0 == u.0) && (e.high.0 == v.0)) ((e.low.0 == v.0) && (e.high.0 == u.0)) test)

-- both ends of an arc are parts
pub arc_parts : (g : Graph) (s t : NodeId) (a : Arc) → IsGraph g → Has (arcs_of g s t) a → Has (parts_of g s t) a.from × Has (parts_of g s t) a.to
arc_parts g s t a right h = go (has_either (map node_arc (nodes_to g.nodes)) (flat_map edge_arcs g.edges) a at.0)
  where
    at : Has (all_arcs g) a × (is_there s t a ≡ true)
    at = from_filter (is_there s t) (all_arcs g) a h

    there : (stays s t a.from ≡ true) × (stays s t a.to ≡ true)
    there = both_true (stays s t a.from) (stays s t a.to) at.1

    ends : Has (flat_map both (nodes_to g.nodes)) a.from → Has (flat_map both (nodes_to g.nodes)) a.to → Has (parts_of g s t) a.from × Has (parts_of g s t) a.to
    ends from to = (
      has_filter (stays s t) (flat_map both (nodes_to g.nodes)) a.from from there.0,
      has_filter (stays s t) (flat_map both (nodes_to g.nodes)) a.to to there.1,
    )

    go : Has (map node_arc (nodes_to g.nodes)) a ⊎ Has (flat_map edge_arcs g.edges) a → Has (parts_of g s t) a.from × Has (parts_of g s t) a.to
    go (inl k) =
        let (v, place, is) = from_map node_arc (nodes_to g.nodes) a k in
        let two = has_both (nodes_to g.nodes) v place in
        ends (subst (λ (b : Arc). Has (flat_map both (nodes_to g.nodes)) b.from) is two.0)
        (subst (λ (b : Arc). Has (flat_map both (nodes_to g.nodes)) b.to) is two.1)
    go (inr k) =
        let (u, v, weight, edge, is) = from_edges g.edges a k in
        let last = in_range g u v right edge in
        let first = in_range g v u right (between_other g u v edge) in
        let from = (has_both (nodes_to g.nodes) u (has_node g.nodes u first.0 first.1)).1 in
        let to = (has_both (nodes_to g.nodes) v (has_node g.nodes v last.0 last.1)).0 in
        ends (subst (λ (b : Arc). Has (flat_map both (nodes_to g.nodes)) b.from) (sym is) from)
        (subst (λ (b : Arc). Has (flat_map both (nodes_to g.nodes)) b.to) (sym is) to)

same_cost : (f h : Part → ℤ) (a : Arc) (b : Bool) → f a.from ≡ h a.from → f a.to ≡ h a.to → pos 0 ≤ℤ reduced_cost h (cond b (turned a) a)
    → pos 0 ≤ℤ reduced_cost f (cond b (turned a) a)
same_cost f h a true from to low = rw (from, to) low
same_cost f h a false from to low = rw (from, to) low

-- potentials by the order of parts are a certificate where those by part are
pub certificate_is : (g : Graph) (s t : NodeId) (paths : List (List NodeId)) (f : Part → ℤ) → IsGraph g → IsOptimal g s t paths f
    → IsCertificate g s t paths (map f (parts_of g s t))
certificate_is g s t paths f right best = record {
  one_each = length-map (parts_of g s t) f;
  optimal = all_from (λ a. pos 0 ≤ℤ reduced_cost (number_of (parts_of g s t) (map f (parts_of g s t))) a) (residual g s t paths) (λ x h.
      let in_residual : Arc → Arc = λ a. cond (uses paths a) (turned a) a in
      let (a, at, e) = from_map in_residual (arcs_of g s t) x h in
      let ends = arc_parts g s t a right at in
      let low = held (λ b. pos 0 ≤ℤ reduced_cost f b) (residual g s t paths) (in_residual a) best (has_map in_residual (arcs_of g s t) a at) in
      subst (λ b. pos 0 ≤ℤ reduced_cost (number_of (parts_of g s t) (map f (parts_of g s t))) b) e
      (same_cost (number_of (parts_of g s t) (map f (parts_of g s t))) f a (uses paths a) (number_found (parts_of g s t) f a.from ends.0)
      (number_found (parts_of g s t) f a.to ends.1) low));
}
