-- The sets of disjoint paths between two nodes are finitely many: each stands in a list.
use Rattle.std.proofs.Common.{◌≡◌, ◌≤◌, ℕ, suc, Bool, true, false, List, [], ◌∷◌, ◌++◌, filter, length, refl, sym, ap, subst, ◌∙◌, inl, inr, arith}
use Rattle.std.specs.Prelude.{◌⊎◌, ◌≢◌, ◌&&◌, ◌==◌}
use Rattle.std.specs.List.{All, AllPairs, Contains, flat_map}
use Rattle.std.proofs.lemmas.Bool.{eqb-true}
use Rattle.std.proofs.lemmas.Bool.Decides.{nat_tests}
use Rattle.sp_base.specs.declared.id.NodeId.{NodeId}
use Rattle.sp_graph.specs.declared.graph.Graph.{Graph}
use Rattle.sp_graph.specs.Disjoint.{Apart, Disjoint}
use Rattle.sp_graph.specs.Walks.{IsPath, Joined, is_between, steps}
use Rattle.sp_topology.specs.declared.topology.Edge.{Edge}
use Rattle.laws_paths.proofs.Kept.{between, both_true, has_filter, same_node}
use Rattle.laws_paths.proofs.Lists.{Has, contains, distinct, held, either_true}
use Rattle.sp_paths.proofs.PathLemmas.{all_from}
use Rattle.sp_paths.proofs.Tested.{all_apart_is, all_paths_is}
use Rattle.sp_paths.specs.Tests.{all_apart, is_path}
use Rattle.laws_runs_format.proofs.Listed.{all_are_listed, listed, listed_are_among, no_longer, passed}

-- ---- the nodes of a path are ends of edges

abbrev ends_of : Edge → List NodeId
ends_of e = e.low ∷ e.high ∷ []

abbrev pub nodes_of : Graph → List NodeId
nodes_of g = flat_map ends_of g.edges

has_end : (edges : List Edge) (e : Edge) (v : NodeId) → Has edges e → (v ≡ e.low) ⊎ (v ≡ e.high) → Has (flat_map ends_of edges) v
has_end [] e v h k = absurd h
has_end (f ∷ edges) e v (inl same) (inl k) = inl (ap (λ (x : Edge). x.low) same ∙ sym k)
has_end (f ∷ edges) e v (inl same) (inr k) = inr (inl (ap (λ (x : Edge). x.high) same ∙ sym k))
has_end (f ∷ edges) e v (inr h) k = inr (inr (has_end edges e v h k))

is_end_of : (u v : NodeId) (e : Edge) → is_between u v e ≡ true → ((u ≡ e.low) ⊎ (u ≡ e.high)) × ((v ≡ e.low) ⊎ (v ≡ e.high))
is_end_of u v e is = go (either_true ((e.low.0 == u.0) && (e.high.0 == v.0)) ((e.low.0 == v.0) && (e.high.0 == u.0)) is)
  where
    go : (((e.low.0 == u.0) && (e.high.0 == v.0)) ≡ true) ⊎ (((e.low.0 == v.0) && (e.high.0 == u.0)) ≡ true)
        → ((u ≡ e.low) ⊎ (u ≡ e.high)) × ((v ≡ e.low) ⊎ (v ≡ e.high))
    go (inl k) =
        let both = both_true (e.low.0 == u.0) (e.high.0 == v.0) k in
        (inl (sym (same_node e.low u (eqb-true _ _ both.0))), inr (sym (same_node e.high v (eqb-true _ _ both.1))))
    go (inr k) =
        let both = both_true (e.low.0 == v.0) (e.high.0 == u.0) k in
        (inr (sym (same_node e.high u (eqb-true _ _ both.1))), inl (sym (same_node e.low v (eqb-true _ _ both.0))))

joined_ends : (g : Graph) (u v : NodeId) → Joined g (u, v) → Has (nodes_of g) u × Has (nodes_of g) v
joined_ends g u v joined =
    let at = between g u v joined in
    let ends = is_end_of u v at.0 at.2 in
    (has_end g.edges at.0 u at.1 ends.0, has_end g.edges at.0 v at.1 ends.1)

all_first : {X : Type 0} (P : X → Type 0) (x : X) (xs : List X) → All P (x ∷ xs) → P x
all_first P x xs all = held P (x ∷ xs) x all (inl refl)

all_rest : {X : Type 0} (P : X → Type 0) (x : X) (xs : List X) → All P (x ∷ xs) → All P xs
all_rest P x xs all = λ k d inside. all (suc k) d (omega (arith, inside))

among : (g : Graph) (a b : NodeId) (rest : List NodeId) → All (Joined g) (steps (a ∷ b ∷ rest)) → (v : NodeId) → Has (a ∷ b ∷ rest) v → Has (nodes_of g) v
among g a b rest joined v (inl e) = subst (Has (nodes_of g)) e (joined_ends g a b (all_first (Joined g) (a, b) (steps (b ∷ rest)) joined)).0
among g a b [] joined v (inr (inl e)) = subst (Has (nodes_of g)) e (joined_ends g a b (all_first (Joined g) (a, b) [] joined)).1
among g a b [] joined v (inr (inr h)) = absurd h
among g a b (c ∷ rest) joined v (inr h) = among g b c rest (all_rest (Joined g) (a, b) (steps (b ∷ c ∷ rest)) joined) v h

-- a path has a first node and a second one
in_two : (s t : NodeId) (inner : List NodeId) → (second : NodeId) × (rest : List NodeId) × (inner ++ t ∷ [] ≡ second ∷ rest)
in_two s t [] = (t, [], refl)
in_two s t (v ∷ inner) = (v, inner ++ t ∷ [], refl)

record Begins (path : List NodeId) : Type 0 where
  first : NodeId
  second : NodeId
  rest : List NodeId
  is : path ≡ first ∷ second ∷ rest

begins : (g : Graph) (s t : NodeId) (path : List NodeId) → IsPath g s t path → Begins path
begins g s t path good =
    let two = in_two s t good.ends.0 in
    record { first = s; second = two.0; rest = two.1; is = good.ends.1 ∙ ap (λ (vs : List NodeId). s ∷ vs) two.2 }

pub on_edges : (g : Graph) (s t : NodeId) (path : List NodeId) → IsPath g s t path → (v : NodeId) → Has path v → Has (nodes_of g) v
on_edges g s t path good v h =
    let b = begins g s t path good in
    among g b.first b.second b.rest (subst (λ (p : List NodeId). All (Joined g) (steps p)) b.is good.joined) v (subst (λ (p : List NodeId). Has p v) b.is h)

-- ---- all paths

abbrev pub paths_of : Graph → NodeId → NodeId → List (List NodeId)
paths_of g s t = filter (is_path g.edges s t) (listed (length (nodes_of g)) (nodes_of g))

single : {X : Type 0} (P : X → Type 0) (x : X) → P x → All P (x ∷ [])
single P x is = all_from P (x ∷ []) only
  where
    only : (y : _) → Has (x ∷ []) y → P y
    only y (inl e) = subst P e is
    only y (inr h) = absurd h

test_of_path : (g : Graph) (s t : NodeId) (path : List NodeId) → IsPath g s t path → is_path g.edges s t path ≡ true
test_of_path g s t path good = (both_true (is_path g.edges s t path) true ((all_paths_is g s t (path ∷ [])).1 (single (IsPath g s t) path good))).0

path_of_test : (g : Graph) (s t : NodeId) (path : List NodeId) → is_path g.edges s t path ≡ true → IsPath g s t path
path_of_test g s t path is = all_first (IsPath g s t) path [] ((all_paths_is g s t (path ∷ [])).0 (alone (is_path g.edges s t path) is))
  where
    alone : (b : Bool) → b ≡ true → (b && true) ≡ true
    alone true e = refl
    alone false e = e

pub path_is_listed : (g : Graph) (s t : NodeId) (path : List NodeId) → IsPath g s t path → Has (paths_of g s t) path
path_is_listed g s t path good =
    has_filter (is_path g.edges s t) (listed (length (nodes_of g)) (nodes_of g)) path
    (all_are_listed (length (nodes_of g)) (nodes_of g) path (no_longer path (nodes_of g) (distinct path good.once) (on_edges g s t path good))
    (on_edges g s t path good))
    (test_of_path g s t path good)

pub listed_is_path : (g : Graph) (s t : NodeId) (path : List NodeId) → Has (paths_of g s t) path → IsPath g s t path
listed_is_path g s t path h = path_of_test g s t path (passed (is_path g.edges s t) (listed (length (nodes_of g)) (nodes_of g)) path h).0

-- ---- all sets of them

abbrev pub sets_of : Graph → NodeId → NodeId → List (List (List NodeId))
sets_of g s t = filter (all_apart s t) (listed (length (paths_of g s t)) (paths_of g s t))

-- a path has a step, which it shares with itself
not_itself : (g : Graph) (s t : NodeId) (p q : List NodeId) → IsPath g s t p → Apart s t p q → p ≡ q → ⊥
not_itself g s t p q good apart same =
    let b = begins g s t p good in
    let step : Contains (steps p) (b.first, b.second) =
    subst (λ (r : List NodeId). Contains (steps r) (b.first, b.second)) (sym b.is)
    (contains (steps (b.first ∷ b.second ∷ b.rest)) (b.first, b.second) (inl refl)) in
    apart.edges b.first b.second step (inl (subst (λ (r : List NodeId). Contains (steps r) (b.first, b.second)) same step))

differ : (g : Graph) (s t : NodeId) (paths : List (List NodeId)) → All (IsPath g s t) paths → AllPairs (Apart s t) paths → AllPairs (λ p q. p ≢ q) paths
differ g s t paths good apart = λ i j d less inside. not_itself g s t _ _ (good i d (omega (arith, less, inside))) (apart i j d less inside)

pub set_is_listed : (g : Graph) (s t : NodeId) (n : ℕ) (paths : List (List NodeId)) → Disjoint g s t n paths → Has (sets_of g s t) paths
set_is_listed g s t n paths is =
    let there : (p : List NodeId) → Has paths p → Has (paths_of g s t) p = λ p h. path_is_listed g s t p (held (IsPath g s t) paths p is.are_paths h) in
    has_filter (all_apart s t) (listed (length (paths_of g s t)) (paths_of g s t)) paths
    (all_are_listed (length (paths_of g s t)) (paths_of g s t) paths
    (no_longer paths (paths_of g s t) (distinct paths (differ g s t paths is.are_paths is.apart)) there) there)
    ((all_apart_is s t paths).1 is.apart)

pub listed_is_set : (g : Graph) (s t : NodeId) (paths : List (List NodeId)) → Has (sets_of g s t) paths → Disjoint g s t (length paths) paths
listed_is_set g s t paths h =
    let found = passed (all_apart s t) (listed (length (paths_of g s t)) (paths_of g s t)) paths h in
    record {
      count = refl;
      are_paths = all_from (IsPath g s t) paths (λ p k. listed_is_path g s t p (listed_are_among (length (paths_of g s t)) (paths_of g s t) paths found.1 p k));
      apart = (all_apart_is s t paths).0 found.0;
    }

pub no_paths : (g : Graph) (s t : NodeId) → Disjoint g s t 0 []
no_paths g s t = record { count = refl; are_paths = λ k d inside. absurd (omega (arith, inside)); apart = λ i j d less inside. absurd (omega (arith, inside)) }

-- fewer of the same are disjoint too
pub fewer_of : (g : Graph) (s t : NodeId) (k : ℕ) (paths : List (List NodeId)) → k ≤ length paths → All (IsPath g s t) paths → AllPairs (Apart s t) paths
    → (some : List (List NodeId)) × Disjoint g s t k some
fewer_of g s t k [] few good apart = ([], record { count = omega (arith, few); are_paths = good; apart = apart })
fewer_of g s t k (p ∷ paths) few good apart =
    go (k == suc (length paths)) refl (λ less. fewer_of g s t k paths less (all_rest (IsPath g s t) p paths good) shorter)
  where
    shorter : AllPairs (Apart s t) paths
    shorter = λ i j d lower inside. apart (suc i) (suc j) d (omega (arith, lower)) (omega (arith, inside))

    go : (b : Bool) → (k == suc (length paths)) ≡ b → (k ≤ length paths → (some : List (List NodeId)) × Disjoint g s t k some)
        → (some : List (List NodeId)) × Disjoint g s t k some
    go true e rest = (p ∷ paths, record { count = sym (eqb-true _ _ e); are_paths = good; apart = apart })
    go false e rest = rest (grind (arith, nat_tests, e, few))
