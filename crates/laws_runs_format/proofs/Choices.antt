-- There is a choice of edges: of all sets of so many paths the cheapest, or where there is none, how many paths there are at most.
use Rattle.sp_rules.specs.Weights.{WeightState}
use Rattle.std.proofs.Common.{◌≡◌, ◌<◌, ℕ, zero, suc, Bool, true, false, List, [], ◌∷◌, filter, length, Option, Some, None, refl, sym, ap, subst, ◌∙◌, arith}
use Rattle.std.specs.Prelude.{◌==◌, nat_lt, slice_get}
use Rattle.std.proofs.lemmas.Bool.{eqb-true, ltb-false, ltb-true}
use Rattle.sp_base.specs.declared.id.NodeId.{NodeId}
use Rattle.sp_graph.specs.declared.graph.Graph.{Graph}
use Rattle.sp_graph.specs.Disjoint.{Disjoint, cost}
use Rattle.sp_rules.proofs.MaskLemmas.{none_used}
use Rattle.sp_rules.specs.Masks.{AreFewer, Choice, IsCheapestMask, IsChoice, IsMaskOf, Mask, OnlyPaths, is_used, open_edges}
use Rattle.sp_topology.specs.declared.topology.Edge.{Edge}
use Rattle.laws_paths.proofs.Kept.{has_filter, same_number}
use Rattle.laws_paths.proofs.Lists.{Has}
use Rattle.laws_runs_format.proofs.Listed.{least, most, passed}
use Rattle.laws_runs_format.proofs.MaskBits.{bits, bits_are, passes_at}
use Rattle.laws_runs_format.proofs.PathSets.{fewer_of, listed_is_set, no_paths, set_is_listed, sets_of}
use Rattle.laws_runs_format.specs.Turns.{EachRequestHasAChoice}

-- ---- the mask of some paths

used_at : (paths : List (List NodeId)) (e : Option Edge) → passes_at (λ (f : Edge). is_used paths (Some f)) e ≡ is_used paths e
used_at paths None = sym (none_used paths)
used_at paths (Some e) = refl

has_mask : (edges : List Edge) (paths : List (List NodeId)) → IsMaskOf edges paths (bits (λ (f : Edge). is_used paths (Some f)) edges)
has_mask edges paths = λ edge. bits_are (λ (f : Edge). is_used paths (Some f)) edges edge ∙ used_at paths (slice_get edges edge)

-- ---- the sets of so many paths

abbrev has_count : ℕ → List (List NodeId) → Bool
has_count count paths = length paths == count

abbrev sets_with : Graph → NodeId → NodeId → ℕ → List (List (List NodeId))
sets_with g s t count = filter (has_count count) (sets_of g s t)

is_with : (g : Graph) (s t : NodeId) (count : ℕ) (paths : List (List NodeId)) → Disjoint g s t count paths → Has (sets_with g s t count) paths
is_with g s t count paths is =
    has_filter (has_count count) (sets_of g s t) paths (set_is_listed g s t count paths is) (ap (λ (n : ℕ). n == count) is.count ∙ same_number count)

with_is : (g : Graph) (s t : NodeId) (count : ℕ) (paths : List (List NodeId)) → Has (sets_with g s t count) paths → Disjoint g s t count paths
with_is g s t count paths h =
    let found = passed (has_count count) (sets_of g s t) paths h in
    let is = listed_is_set g s t paths found.1 in
    record { count = eqb-true _ _ found.0; are_paths = is.are_paths; apart = is.apart }

cheapest : (w : WeightState) (g : Graph) (s t : NodeId) (count : ℕ) (first : List (List NodeId)) (rest : List (List (List NodeId)))
    → sets_with g s t count ≡ first ∷ rest
    → (mask : ℕ) × IsCheapestMask w g s t count mask
cheapest w g s t count first rest are =
    let best = least (cost g) first rest in (
      bits (λ (f : Edge). is_used best.0 (Some f)) w.edges,
      record {
        paths = best.0;
        disjoint = with_is g s t count best.0 (subst (λ (sets : List (List (List NodeId))). Has sets best.0) (sym are) best.1);
        least = λ others is. best.2 others (subst (λ (sets : List (List (List NodeId))). Has sets others) are (is_with g s t count others is));
        mask_of = has_mask w.edges best.0;
      },
    )

fewer : (g : Graph) (s t : NodeId) (count : ℕ) (first : List (List NodeId)) (rest : List (List (List NodeId))) → sets_of g s t ≡ first ∷ rest
    → sets_with g s t count ≡ [] → (found : ℕ) × AreFewer g s t count found
fewer g s t count first rest are none =
    let best = most (λ (paths : List (List NodeId)). length paths) first rest in
    let is = listed_is_set g s t best.0 (subst (λ (sets : List (List (List NodeId))). Has sets best.0) (sym are) best.1) in (
      length best.0,
      record {
        fewer = below (nat_lt (length best.0) count) refl is;
        paths = best.0;
        disjoint = is;
        no_more = λ n others there.
            let small = best.2 others (subst (λ (sets : List (List (List NodeId))). Has sets others) are (set_is_listed g s t n others there)) in
            omega (arith, small, there.count);
      },
    )
  where
    below : {paths : List (List NodeId)} (b : Bool) → nat_lt (length paths) count ≡ b → Disjoint g s t (length paths) paths → length paths < count
    below true e is = ltb-true _ _ e
    below {paths} false e is =
        let some = fewer_of g s t count paths (ltb-false _ _ e) is.are_paths is.apart in
        absurd (subst (λ (sets : List (List (List NodeId))). Has sets some.0) none (is_with g s t count some.0 some.1))

pub each_request_has_a_choice : EachRequestHasAChoice
each_request_has_a_choice w g s t zero = (Mask (open_edges 0 w.least), refl)
each_request_has_a_choice w g s t (suc more) = go (sets_with g s t (suc more)) refl
  where
    none : sets_with g s t (suc more) ≡ [] → (sets : List (List (List NodeId))) → sets_of g s t ≡ sets → (choice : Choice) × IsChoice w g s t (suc more) choice
    none empty [] are = absurd (subst (λ (all : List (List (List NodeId))). Has all []) are (set_is_listed g s t 0 [] (no_paths g s t)))
    none empty (first ∷ rest) are = let found = fewer g s t (suc more) first rest are empty in (OnlyPaths found.0, found.1)

    go : (with : List (List (List NodeId))) → sets_with g s t (suc more) ≡ with → (choice : Choice) × IsChoice w g s t (suc more) choice
    go [] are = none are (sets_of g s t) refl
    go (first ∷ rest) are = let found = cheapest w g s t (suc more) first rest are in (Mask found.0, found.1)
