-- A cut as the list of its parts is the same cut.
use Rattle.std.proofs.Common.{◌≡◌, ◌<◌, ◌≤◌, ℕ, Bool, true, false, not, cond, List, [], ◌∷◌, refl, sym, ap, ◌∙◌, inl, inr, arith}
use Rattle.std.specs.Prelude.{◌&&◌}
use Rattle.std.specs.List.{filter, flat_map}
use Rattle.sp_base.specs.declared.id.NodeId.{NodeId}
use Rattle.sp_base.specs.declared.limits.TheConstants.{MAX_NODES_2}
use Rattle.sp_graph.specs.declared.graph.Graph.{Graph}
use Rattle.sp_graph.specs.declared.part.Part.{Part}
use Rattle.sp_graph.specs.declared.part.Part.TheVariants as parts
use Rattle.sp_graph.specs.Cuts.{is_among, leaving}
use Rattle.sp_graph.specs.Edges.{IsGraph}
use Rattle.sp_graph.specs.Split.{Arc, arcs_of, is_same, nodes_to, parts_of, stays}
use Rattle.laws_paths.proofs.Kept.{has_filter, has_node, in_stays, is_same_itself, is_same_true, out_stays}
use Rattle.laws_paths.proofs.Lists.{Has, any_has, has_any, held, total, total_is}
use Rattle.sp_paths.specs.declared.limits.TheConstants.{PARTS}
use Rattle.sp_paths.specs.Cheapest.{AreEnds}
use Rattle.sp_paths.specs.Fewer.{AreFewer}
use Rattle.sp_paths.specs.Lanes.{is_in}
use Rattle.sp_paths.specs.Parts.{node_of, number}
use Rattle.sp_paths.specs.Searched.{IsFew}
use Rattle.sp_paths.proofs.CertificateLemmas.{arc_parts, has_both}
use Rattle.sp_paths.proofs.PartLists.{both}
use Rattle.sp_paths.proofs.PathLemmas.{all_from}
use Rattle.sp_paths.proofs.Ranges.{parts_small}
use Rattle.sp_paths.proofs.Shapes.{from_filter}

-- of the parts there, those are among the chosen ones that were chosen
among_is : (f : Part → Bool) (ps : List Part) (q : Part) → Has ps q → is_among (filter f ps) q ≡ f q
among_is f ps q h = go (f q) refl (is_among (filter f ps) q) refl
  where
    go : (a : Bool) → f q ≡ a → (b : Bool) → is_among (filter f ps) q ≡ b → is_among (filter f ps) q ≡ f q
    go true e b g = has_any (is_same q) (filter f ps) q (has_filter f ps q h e) (is_same_itself q) ∙ sym e
    go false e false g = g ∙ sym e
    go false e true g =
        let (p, at, same) = any_has (is_same q) (filter f ps) g in
        let chosen : f q ≡ true = ap f (is_same_true q p same) ∙ (from_filter f ps p at).1 in
        let x : true ≡ false = sym chosen ∙ e in absurd cc

filter_same : {X : Type 0} (f h : X → Bool) (xs : List X) → ((x : X) → Has xs x → f x ≡ h x) → filter f xs ≡ filter h xs
filter_same f h [] same = refl
filter_same {X} f h (x ∷ xs) same =
    ap (λ (b : Bool). cond b (x ∷ filter f xs) (filter f xs)) (same x (inl refl))
    ∙ ap (λ (rest : List X). cond (h x) (x ∷ rest) rest) (filter_same f h xs (λ y k. same y (inr k)))

total_same : {X : Type 0} (f h : X → ℕ) (xs : List X) → ((x : X) → Has xs x → f x ≡ h x) → total f xs ≡ total h xs
total_same f h [] same = refl
total_same f h (x ∷ xs) same = omega (arith, same x (inl refl), total_same f h xs (λ y k. same y (inr k)))

-- as many arcs leave two sets that have the same of the parts there
leaving_same : (g : Graph) (s t : NodeId) (c d : Part → Bool) → IsGraph g → ((q : Part) → Has (parts_of g s t) q → c q ≡ d q)
    → leaving g s t c ≡ leaving g s t d
leaving_same g s t c d right same =
    let one : Arc → ℕ = λ a. cond (c a.from && not (c a.to)) 1 0 in
    let two : Arc → ℕ = λ a. cond (d a.from && not (d a.to)) 1 0 in
    total_is one (arcs_of g s t) ∙ total_same one two (arcs_of g s t) (λ a h.
    let ends = arc_parts g s t a right h in
    ap (λ (b : Bool). cond (b && not (c a.to)) 1 0) (same a.from ends.0) ∙ ap (λ (b : Bool). cond (d a.from && not b) 1 0) (same a.to ends.1))
    ∙ sym (total_is two (arcs_of g s t))

-- both ends have their parts
source_there : (g : Graph) (s t : NodeId) → AreEnds g s t → Has (parts_of g s t) (parts.Out s)
source_there g s t ends =
    has_filter (stays s t) (flat_map both (nodes_to g.nodes)) (parts.Out s) (has_both (nodes_to g.nodes) s (has_node g.nodes s ends.0.0 ends.0.1)).1
    (out_stays s t s ends.2)

destination_there : (g : Graph) (s t : NodeId) → AreEnds g s t → Has (parts_of g s t) (parts.In t)
destination_there g s t ends =
    has_filter (stays s t) (flat_map both (nodes_to g.nodes)) (parts.In t) (has_both (nodes_to g.nodes) t (has_node g.nodes t ends.1.0 ends.1.1)).0
    (in_stays s t t (λ e. ends.2 (sym e)))

pub cut_is : (g : Graph) (s t : NodeId) (k found : ℕ) (reached : List Bool) → IsGraph g → AreEnds g s t → IsFew g s t k found reached
    → AreFewer g s t k found (filter (λ part. is_in reached (number part)) (parts_of g s t))
cut_is g s t k found reached right ends few =
    let test : Part → Bool = λ part. is_in reached (number part) in
    let cut = filter test (parts_of g s t) in
    let same : (q : Part) → Has (parts_of g s t) q → is_among cut q ≡ test q = among_is test (parts_of g s t) in
    record {
      fewer = few.fewer;
      paths = few.paths;
      disjoint = few.disjoint;
      no_more = few.no_more;
      in_order = filter_same test (is_among cut) (parts_of g s t) (λ q h. sym (same q h));
      is_cut = record {
        source = same (parts.Out s) (source_there g s t ends) ∙ few.is_cut.source;
        destination =
            same (parts.In t) (destination_there g s t ends) ∙ few.is_cut.destination;
      };
      size = leaving_same g s t (is_among cut) test right same ∙ few.size;
      least = few.least;
      smallest = λ other good small. all_from (λ part. other part ≡ true) cut (λ q h.
          let at = from_filter test (parts_of g s t) q h in
          let inside = (held (λ part. ((node_of part).0 ≤ MAX_NODES_2) × (number part < PARTS)) (parts_of g s t) q (parts_small g s t right) at.0).1 in
          few.smallest other good small q (omega (arith, inside, few.marks)) at.1);
    }
