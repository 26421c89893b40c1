-- Tests that decide what is asked of paths, for graphs that are written out.
use Rattle.std.proofs.Common.{◌≡◌, Bool, true, false, not, List, [], ◌∷◌, refl, sym, ap, ◌∙◌, inl, inr, arith}
use Rattle.std.specs.Prelude.{◌⊎◌, ◌≢◌, ◌&&◌, ◌||◌, ◌==◌, ℤ, pos, ◌≤ℤ◌, int_le, nat_lt}
use Rattle.std.specs.List.{All, AllPairs, Contains, list_all, list_any}
use Rattle.std.proofs.lemmas.Bool.{eqb-true}
use Rattle.std.proofs.lemmas.Bool.Decides.{nat_tests}
use Rattle.std.proofs.lemmas.Int.{ints}
use Rattle.std.proofs.lemmas.List.Elements.{All-cons, All-nil}
use Rattle.std.proofs.lemmas.List.Kept.{AllPairs-cons}
use Rattle.sp_base.specs.declared.id.NodeId.{NodeId}
use Rattle.sp_topology.specs.declared.topology.Edge.{Edge}
use Rattle.sp_graph.specs.declared.graph.Graph.{Graph}
use Rattle.sp_graph.specs.declared.part.Part.{Part}
use Rattle.sp_graph.specs.Certificates.{IsOptimal, reduced_cost, residual}
use Rattle.sp_graph.specs.Disjoint.{Apart}
use Rattle.sp_graph.specs.Edges.{IsLower}
use Rattle.sp_graph.specs.Walks.{IsPath, Joined, is_between, steps}
use Rattle.laws_paths.proofs.Kept.{both_true, same_node, same_number}
use Rattle.laws_paths.proofs.Lists.{Has, any_has, contains, either_true, has, has_any}
use Rattle.laws_paths.proofs.Ways.{line}

pub all_true : {X : Type 0} (P : X → Type 0) (test : X → Bool) → ((x : X) → test x ≡ true → P x) → (xs : List X) → list_all test xs ≡ true → All P xs
all_true P test sound [] e = All-nil P
all_true P test sound (x ∷ xs) e = let k = both_true (test x) (list_all test xs) e in All-cons P x xs (sound x k.0) (all_true P test sound xs k.1)

all_has : {X : Type 0} (test : X → Bool) (xs : List X) (a : X) → list_all test xs ≡ true → Has xs a → test a ≡ true
all_has test [] a e h = absurd h
all_has test (x ∷ xs) a e (inl f) = ap test (sym f) ∙ (both_true (test x) (list_all test xs) e).0
all_has test (x ∷ xs) a e (inr h) = all_has test xs a (both_true (test x) (list_all test xs) e).1 h

abbrev pub is_node : NodeId → NodeId → Bool
is_node u v = u.0 == v.0

abbrev pub all_differ : List NodeId → Bool
all_differ [] = true
all_differ (v ∷ vs) = list_all (λ w. not (is_node v w)) vs && all_differ vs

differ : (u v : NodeId) → not (is_node u v) ≡ true → u ≢ v
differ u v e same = let is : is_node u v ≡ true = ap (is_node u) (sym same) ∙ same_number u.0 in let x : false ≡ true = rw is at e in absurd cc

pub once_by : (path : List NodeId) → all_differ path ≡ true → AllPairs (λ u v. u ≢ v) path
once_by [] e = λ i j d less inside. absurd (omega (arith, inside))
once_by (v ∷ vs) e =
    let k = both_true (list_all (λ w. not (is_node v w)) vs) (all_differ vs) e in
    AllPairs-cons (λ u w. u ≢ w) v vs (all_true (λ w. v ≢ w) (λ w. not (is_node v w)) (differ v) vs k.0) (once_by vs k.1)

joined_by : (g : Graph) (x : NodeId × NodeId) → list_any (is_between x.0 x.1) g.edges ≡ true → Joined g x
joined_by g x e = let at = any_has (is_between x.0 x.1) g.edges e in let place = contains g.edges at.0 at.1 in (place.0, at.0, place.1, place.2, at.2)

pub path_by : (g : Graph) (s t : NodeId) (inner : List NodeId)
    → list_all (λ x. list_any (is_between x.0 x.1) g.edges) (steps (line s inner t)) ≡ true → all_differ (line s inner t) ≡ true → IsPath g s t (line s inner t)
path_by g s t inner joined once = record {
  ends = (inner, refl);
  joined = all_true (Joined g) (λ x. list_any (is_between x.0 x.1) g.edges) (joined_by g) (steps (line s inner t)) joined;
  once = once_by (line s inner t) once;
}

abbrev pub is_step : NodeId × NodeId → NodeId × NodeId → Bool
is_step x y = (is_node x.0 y.0 && is_node x.1 y.1) || (is_node x.0 y.1 && is_node x.1 y.0)

-- whether two paths share no node but the ends, and no edge
abbrev pub are_apart : NodeId → NodeId → List NodeId → List NodeId → Bool
are_apart s t p q =
    list_all (λ v. not (list_any (is_node v) q) || (is_node v s || is_node v t)) p && list_all (λ x. not (list_any (is_step x) (steps q))) (steps p)

not_both : (b : Bool) → not b ≡ true → b ≡ true → ⊥
not_both true e f = absurd cc
not_both false e f = absurd cc

pub apart_by : (s t : NodeId) (p q : List NodeId) → are_apart s t p q ≡ true → Apart s t p q
apart_by s t p q e = record { nodes = nodes; edges = edges }
  where
    parts : (list_all (λ v. not (list_any (is_node v) q) || (is_node v s || is_node v t)) p ≡ true)
        × (list_all (λ x. not (list_any (is_step x) (steps q))) (steps p) ≡ true)
    parts = both_true (list_all (λ v. not (list_any (is_node v) q) || (is_node v s || is_node v t)) p)
        (list_all (λ x. not (list_any (is_step x) (steps q))) (steps p)) e

    an_end : (v : NodeId) → (is_node v s || is_node v t) ≡ true → (v ≡ s) ⊎ (v ≡ t)
    an_end v f = go (either_true (is_node v s) (is_node v t) f)
      where
        go : (is_node v s ≡ true) ⊎ (is_node v t ≡ true) → (v ≡ s) ⊎ (v ≡ t)
        go (inl k) = inl (same_node v s (eqb-true _ _ k))
        go (inr k) = inr (same_node v t (eqb-true _ _ k))

    nodes : (v : NodeId) → Contains p v → Contains q v → (v ≡ s) ⊎ (v ≡ t)
    nodes v on_p on_q =
        go (either_true (not (list_any (is_node v) q)) (is_node v s || is_node v t)
        (all_has (λ u. not (list_any (is_node u) q) || (is_node u s || is_node u t)) p v parts.0 (has p v on_p)))
      where
        go : (not (list_any (is_node v) q) ≡ true) ⊎ ((is_node v s || is_node v t) ≡ true) → (v ≡ s) ⊎ (v ≡ t)
        go (inl f) = absurd (not_both (list_any (is_node v) q) f (has_any (is_node v) q v (has q v on_q) (same_number v.0)))
        go (inr f) = an_end v f

    edges : (u v : NodeId) → Contains (steps p) (u, v) → Contains (steps q) (u, v) ⊎ Contains (steps q) (v, u) → ⊥
    edges u v on_p on_q = go on_q
      where
        none : not (list_any (is_step (u, v)) (steps q)) ≡ true
        none = all_has (λ x. not (list_any (is_step x) (steps q))) (steps p) (u, v) parts.1 (has (steps p) (u, v) on_p)

        same_way : is_step (u, v) (u, v) ≡ true
        same_way = let one = same_number u.0 in let two = same_number v.0 in rw (one, two) refl

        other_way : is_step (u, v) (v, u) ≡ true
        other_way = go_on (is_node u v && is_node v u)
          where
            go_on : (b : Bool) → (b || (is_node u u && is_node v v)) ≡ true
            go_on true = refl
            go_on false = let one = same_number u.0 in let two = same_number v.0 in rw (one, two) refl

        go : Contains (steps q) (u, v) ⊎ Contains (steps q) (v, u) → ⊥
        go (inl at) = not_both (list_any (is_step (u, v)) (steps q)) none (has_any (is_step (u, v)) (steps q) (u, v) (has (steps q) (u, v) at) same_way)
        go (inr at) = not_both (list_any (is_step (u, v)) (steps q)) none (has_any (is_step (u, v)) (steps q) (v, u) (has (steps q) (v, u) at) other_way)

pub optimal_by : (g : Graph) (s t : NodeId) (paths : List (List NodeId)) (p : Part → ℤ)
    → list_all (λ a. int_le (pos 0) (reduced_cost p a)) (residual g s t paths) ≡ true → IsOptimal g s t paths p
optimal_by g s t paths p e =
    all_true (λ a. pos 0 ≤ℤ reduced_cost p a) (λ a. int_le (pos 0) (reduced_cost p a)) (λ a is. omega (arith, ints, is)) (residual g s t paths) e

abbrev pub is_lower : Edge → Edge → Bool
is_lower f e = nat_lt f.low.0 e.low.0 || (f.low.0 == e.low.0 && nat_lt f.high.0 e.high.0)

abbrev pub in_order : List Edge → Bool
in_order [] = true
in_order (e ∷ es) = list_all (is_lower e) es && in_order es

lower_by : (f e : Edge) → is_lower f e ≡ true → IsLower f e
lower_by f e is = go (either_true (nat_lt f.low.0 e.low.0) (f.low.0 == e.low.0 && nat_lt f.high.0 e.high.0) is)
  where
    go : (nat_lt f.low.0 e.low.0 ≡ true) ⊎ ((f.low.0 == e.low.0 && nat_lt f.high.0 e.high.0) ≡ true) → IsLower f e
    go (inl k) = inl (grind (arith, nat_tests))
    go (inr k) = let both = both_true (f.low.0 == e.low.0) (nat_lt f.high.0 e.high.0) k in inr (eqb-true _ _ both.0, grind (arith, nat_tests))

pub order_by : (edges : List Edge) → in_order edges ≡ true → AllPairs IsLower edges
order_by [] e = λ i j d less inside. absurd (omega (arith, inside))
order_by (f ∷ edges) e =
    let k = both_true (list_all (is_lower f) edges) (in_order edges) e in
    AllPairs-cons IsLower f edges (all_true (IsLower f) (is_lower f) (lower_by f) edges k.0) (order_by edges k.1)
