-- What the tests of lists of nodes decide.
use Rattle.std.proofs.Common.{◌≡◌, suc, Bool, true, false, not, List, [], ◌∷◌, ◌++◌, length, refl, sym, ap, subst, ◌∙◌, inl, inr, arith}
use Rattle.std.specs.Prelude.{◌⊎◌, ◌≢◌, ◌&&◌, ◌||◌, ◌↔◌}
use Rattle.std.specs.List.{All, AllPairs, Contains, list_all}
use Rattle.std.proofs.lemmas.Bool.{eqb-true}
use Rattle.std.proofs.lemmas.List.Kept.{AllPairs-cons}
use Rattle.sp_base.specs.declared.id.NodeId.{NodeId}
use Rattle.sp_graph.specs.declared.graph.Graph.{Graph}
use Rattle.sp_graph.specs.Disjoint.{Apart}
use Rattle.sp_graph.specs.Walks.{IsPath, Joined, is_between, steps}
use Rattle.laws_paths.proofs.Kept.{between, both_true, same_node, same_number}
use Rattle.laws_paths.proofs.Lists.{Has, any_has, contains, either_true, has, has_any, held, or_first, or_true}
use Rattle.sp_paths.specs.Tests.{all_apart, all_differ, are_apart, ends_at, goes_between, has_node, has_step, is_end, is_joined, is_node, is_path, is_step}
use Rattle.sp_paths.specs.Tests.{share_no_edge, share_no_node}
use Rattle.sp_paths.proofs.PathLemmas.{all_from}

-- ---- tests of whole lists

both : (a b : Bool) → a ≡ true → b ≡ true → (a && b) ≡ true
both true b e f = f
both false b e f = absurd cc

all_when : {X : Type 0} (test : X → Bool) (xs : List X) → ((x : X) → Has xs x → test x ≡ true) → list_all test xs ≡ true
all_when test [] held_there = refl
all_when test (x ∷ xs) held_there = both (test x) (list_all test xs) (held_there x (inl refl)) (all_when test xs (λ y h. held_there y (inr h)))

all_has : {X : Type 0} (test : X → Bool) (xs : List X) (a : X) → list_all test xs ≡ true → Has xs a → test a ≡ true
all_has test [] a e h = absurd h
all_has test (x ∷ xs) a e (inl f) = ap test (sym f) ∙ (both_true (test x) (list_all test xs) e).0
all_has test (x ∷ xs) a e (inr h) = all_has test xs a (both_true (test x) (list_all test xs) e).1 h

-- a test of each element decides what it decides of each
pub all_is : {X : Type 0} (P : X → Type 0) (test : X → Bool) → ((x : X) → (test x ≡ true) ↔ P x) → (xs : List X) → (list_all test xs ≡ true) ↔ All P xs
all_is P test decides xs =
    (λ e. all_from P xs (λ x h. (decides x).0 (all_has test xs x e h)), λ all. all_when test xs (λ x h. (decides x).1 (held P xs x all h)))

not_true : (b : Bool) → (b ≡ true → ⊥) → not b ≡ true
not_true b never = go b refl
  where
    go : (a : Bool) → b ≡ a → not b ≡ true
    go true e = absurd (never e)
    go false e = ap not e

not_both : (b : Bool) → not b ≡ true → b ≡ true → ⊥
not_both true e f = absurd cc
not_both false e f = absurd cc

-- ---- nodes

pub is_node_true : (u v : NodeId) → is_node u v ≡ true → u ≡ v
is_node_true u v e = same_node u v (eqb-true _ _ e)

pub is_node_same : (u v : NodeId) → u ≡ v → is_node u v ≡ true
is_node_same u v e = ap (λ (w : NodeId). is_node w v) e ∙ same_number v.0

pub begins_same : (u v : NodeId) → u.0 ≡ v.0 → is_node u v ≡ true
begins_same u v e = is_node_same u v (same_node u v e)

has_node_is : (path : List NodeId) (v : NodeId) → (has_node path v ≡ true) ↔ Has path v
has_node_is path v = (
  λ e. let (u, at, same) = any_has (is_node v) path e in subst (Has path) (sym (is_node_true v u same)) at,
  λ h. has_any (is_node v) path v h (same_number v.0),
)

-- ---- a path

pub differ_is : (path : List NodeId) → (all_differ path ≡ true) ↔ AllPairs (λ u v. u ≢ v) path
differ_is [] = (λ e i j d less inside. absurd (omega (arith, inside)), λ pairs. refl)
differ_is (v ∷ path) = (when (differ_is path).0, back (differ_is path).1)
  where
    when : (all_differ path ≡ true → AllPairs (λ u w. u ≢ w) path) → all_differ (v ∷ path) ≡ true → AllPairs (λ u w. u ≢ w) (v ∷ path)
    when rest e =
        let k = both_true (not (has_node path v)) (all_differ path) e in
        AllPairs-cons (λ u w. u ≢ w) v path
        (all_from (λ w. v ≢ w) path (λ w h same. not_both (has_node path v) k.0 ((has_node_is path v).1 (subst (Has path) (sym same) h)))) (rest k.1)

    back : (AllPairs (λ u w. u ≢ w) path → all_differ path ≡ true) → AllPairs (λ u w. u ≢ w) (v ∷ path) → all_differ (v ∷ path) ≡ true
    back rest pairs =
        both (not (has_node path v)) (all_differ path)
        (not_true (has_node path v) (λ e.
        let at = contains path v ((has_node_is path v).0 e) in
        pairs 0 (suc at.0) v (omega arith) (omega (arith, at.1)) (sym at.2)))
        (rest (λ i j d less inside. pairs (suc i) (suc j) d (omega (arith, less)) (omega (arith, inside))))

pub joined_is : (g : Graph) (path : List NodeId) → (list_all (is_joined g.edges) (steps path) ≡ true) ↔ All (Joined g) (steps path)
joined_is g path = all_is (Joined g) (is_joined g.edges) (λ step. (joined_by step, joined_test step)) (steps path)
  where
    joined_by : (step : NodeId × NodeId) → is_joined g.edges step ≡ true → Joined g step
    joined_by step e = let at = any_has (is_between step.0 step.1) g.edges e in let place = contains g.edges at.0 at.1 in
        (place.0, at.0, place.1, place.2, at.2)

    joined_test : (step : NodeId × NodeId) → Joined g step → is_joined g.edges step ≡ true
    joined_test step joined = let at = between g step.0 step.1 joined in has_any (is_between step.0 step.1) g.edges at.0 at.1 at.2

ends_push : (t : NodeId) (inner : List NodeId) (v : NodeId) → ends_at t (inner ++ v ∷ []) ≡ is_node v t
ends_push t [] v = refl
ends_push t (u ∷ []) v = refl
ends_push t (u ∷ w ∷ inner) v = ends_push t (w ∷ inner) v

-- what the list's first and last say
pub first_and_last : (s t first last : NodeId) (path rest inner : List NodeId) → path ≡ first ∷ rest → rest ≡ inner ++ last ∷ []
    → goes_between s t path ≡ (is_node first s && is_node last t)
first_and_last s t first last path rest inner one two =
    ap (goes_between s t) (one ∙ ap (λ (vs : List NodeId). first ∷ vs) two) ∙ ap (λ (b : Bool). is_node first s && b) (ends_push t inner last)

pub too_short : (s t first : NodeId) (path rest : List NodeId) → path ≡ first ∷ rest → length rest ≡ 0 → goes_between s t path ≡ false
too_short s t first path [] one short = ap (goes_between s t) one ∙ nothing (is_node first s)
  where
    nothing : (b : Bool) → (b && false) ≡ false
    nothing true = refl
    nothing false = refl
too_short s t first path (v ∷ rest) one short = absurd (omega (arith, short))

inner_of : (t : NodeId) (path : List NodeId) → ends_at t path ≡ true → (inner : List NodeId) × (path ≡ inner ++ t ∷ [])
inner_of t [] e = absurd cc
inner_of t (v ∷ []) e = ([], ap (λ (u : NodeId). u ∷ []) (is_node_true v t e))
inner_of t (v ∷ w ∷ path) e = let (inner, is) = inner_of t (w ∷ path) e in (v ∷ inner, ap (λ (us : List NodeId). v ∷ us) is)

between_is : (s t : NodeId) (path : List NodeId) → (goes_between s t path ≡ true) ↔ ((inner : List NodeId) × (path ≡ s ∷ (inner ++ t ∷ [])))
between_is s t path =
    (when path, λ k. ap (goes_between s t) k.1 ∙ both (is_node s s) (ends_at t (k.0 ++ t ∷ [])) (same_number s.0) (ends_push t k.0 t ∙ same_number t.0))
  where
    when : (vs : List NodeId) → goes_between s t vs ≡ true → (inner : List NodeId) × (vs ≡ s ∷ (inner ++ t ∷ []))
    when [] e = absurd cc
    when (v ∷ vs) e =
        let k = both_true (is_node v s) (ends_at t vs) e in
        let (inner, is) = inner_of t vs k.1 in
        (inner, ap (λ (u : NodeId). u ∷ vs) (is_node_true v s k.0) ∙ ap (λ (us : List NodeId). s ∷ us) is)

path_is : (g : Graph) (s t : NodeId) (path : List NodeId) → (is_path g.edges s t path ≡ true) ↔ IsPath g s t path
path_is g s t path = (when, back)
  where
    when : is_path g.edges s t path ≡ true → IsPath g s t path
    when e =
        let k = both_true (goes_between s t path && list_all (is_joined g.edges) (steps path)) (all_differ path) e in
        let m = both_true (goes_between s t path) (list_all (is_joined g.edges) (steps path)) k.0 in
        record { ends = (between_is s t path).0 m.0; joined = (joined_is g path).0 m.1; once = (differ_is path).0 k.1 }

    back : IsPath g s t path → is_path g.edges s t path ≡ true
    back good =
        both (goes_between s t path && list_all (is_joined g.edges) (steps path)) (all_differ path)
        (both (goes_between s t path) (list_all (is_joined g.edges) (steps path)) ((between_is s t path).1 good.ends) ((joined_is g path).1 good.joined))
        ((differ_is path).1 good.once)

-- the test that each is a path says so exactly
pub all_paths_is : (g : Graph) (s t : NodeId) (paths : List (List NodeId)) → (list_all (is_path g.edges s t) paths ≡ true) ↔ All (IsPath g s t) paths
all_paths_is g s t paths = all_is (IsPath g s t) (is_path g.edges s t) (path_is g s t) paths

-- ---- two paths

end_is : (s t v : NodeId) → (is_end s t v ≡ true) ↔ ((v ≡ s) ⊎ (v ≡ t))
end_is s t v = (λ e. go (either_true (is_node v s) (is_node v t) e), back)
  where
    go : (is_node v s ≡ true) ⊎ (is_node v t ≡ true) → (v ≡ s) ⊎ (v ≡ t)
    go (inl k) = inl (is_node_true v s k)
    go (inr k) = inr (is_node_true v t k)

    back : (v ≡ s) ⊎ (v ≡ t) → is_end s t v ≡ true
    back (inl e) = or_first (is_node v s) (is_node v t) (is_node_same v s e)
    back (inr e) = or_true (is_node v s) (is_node v t) (is_node_same v t e)

step_is : (u v : NodeId) (x : NodeId × NodeId) → (is_step u v x ≡ true) ↔ ((x ≡ (u, v)) ⊎ (x ≡ (v, u)))
step_is u v x = (λ e. go (either_true (is_node u x.0 && is_node v x.1) (is_node u x.1 && is_node v x.0) e), back)
  where
    go : ((is_node u x.0 && is_node v x.1) ≡ true) ⊎ ((is_node u x.1 && is_node v x.0) ≡ true) → (x ≡ (u, v)) ⊎ (x ≡ (v, u))
    go (inl k) = let k = both_true (is_node u x.0) (is_node v x.1) k in let one = is_node_true u x.0 k.0 in let two = is_node_true v x.1 k.1 in
        inl (rw (one, two) refl)
    go (inr k) = let k = both_true (is_node u x.1) (is_node v x.0) k in let one = is_node_true u x.1 k.0 in let two = is_node_true v x.0 k.1 in
        inr (rw (one, two) refl)

    back : (x ≡ (u, v)) ⊎ (x ≡ (v, u)) → is_step u v x ≡ true
    back (inl e) =
        or_first (is_node u x.0 && is_node v x.1) (is_node u x.1 && is_node v x.0)
        (both (is_node u x.0) (is_node v x.1) (is_node_same u x.0 (ap (λ (y : NodeId × NodeId). y.0) (sym e)))
        (is_node_same v x.1 (ap (λ (y : NodeId × NodeId). y.1) (sym e))))
    back (inr e) =
        or_true (is_node u x.0 && is_node v x.1) (is_node u x.1 && is_node v x.0)
        (both (is_node u x.1) (is_node v x.0) (is_node_same u x.1 (ap (λ (y : NodeId × NodeId). y.1) (sym e)))
        (is_node_same v x.0 (ap (λ (y : NodeId × NodeId). y.0) (sym e))))

has_step_is : (path : List NodeId) (u v : NodeId) → (has_step path u v ≡ true) ↔ (Has (steps path) (u, v) ⊎ Has (steps path) (v, u))
has_step_is path u v = (when, back)
  where
    when : has_step path u v ≡ true → Has (steps path) (u, v) ⊎ Has (steps path) (v, u)
    when e = let (x, at, same) = any_has (is_step u v) (steps path) e in go x at ((step_is u v x).0 same)
      where
        go : (x : NodeId × NodeId) → Has (steps path) x → (x ≡ (u, v)) ⊎ (x ≡ (v, u)) → Has (steps path) (u, v) ⊎ Has (steps path) (v, u)
        go x at (inl e) = inl (subst (Has (steps path)) e at)
        go x at (inr e) = inr (subst (Has (steps path)) e at)

    back : Has (steps path) (u, v) ⊎ Has (steps path) (v, u) → has_step path u v ≡ true
    back (inl h) = has_any (is_step u v) (steps path) (u, v) h ((step_is u v (u, v)).1 (inl refl))
    back (inr h) = has_any (is_step u v) (steps path) (v, u) h ((step_is u v (v, u)).1 (inr refl))

apart_is : (s t : NodeId) (p q : List NodeId) → (are_apart s t p q ≡ true) ↔ Apart s t p q
apart_is s t p q = (when, back)
  where
    when : are_apart s t p q ≡ true → Apart s t p q
    when e = record { nodes = nodes; edges = edges }
      where
        two : (share_no_node s t p q ≡ true) × (share_no_edge p q ≡ true)
        two = both_true (share_no_node s t p q) (share_no_edge p q) e

        nodes : (v : NodeId) → Contains p v → Contains q v → (v ≡ s) ⊎ (v ≡ t)
        nodes v on_p on_q = go (either_true (is_end s t v) (not (has_node q v)) (all_has (λ u. is_end s t u || not (has_node q u)) p v two.0 (has p v on_p)))
          where
            go : (is_end s t v ≡ true) ⊎ (not (has_node q v) ≡ true) → (v ≡ s) ⊎ (v ≡ t)
            go (inl f) = (end_is s t v).0 f
            go (inr f) = absurd (not_both (has_node q v) f ((has_node_is q v).1 (has q v on_q)))

        edges : (u v : NodeId) → Contains (steps p) (u, v) → Contains (steps q) (u, v) ⊎ Contains (steps q) (v, u) → ⊥
        edges u v on_p on_q =
            not_both (has_step q u v) (all_has (λ step. not (has_step q step.0 step.1)) (steps p) (u, v) two.1 (has (steps p) (u, v) on_p))
            ((has_step_is q u v).1 (go on_q))
          where
            go : Contains (steps q) (u, v) ⊎ Contains (steps q) (v, u) → Has (steps q) (u, v) ⊎ Has (steps q) (v, u)
            go (inl at) = inl (has (steps q) (u, v) at)
            go (inr at) = inr (has (steps q) (v, u) at)

    back : Apart s t p q → are_apart s t p q ≡ true
    back a = both (share_no_node s t p q) (share_no_edge p q) (all_when (λ v. is_end s t v || not (has_node q v)) p one)
        (all_when (λ step. not (has_step q step.0 step.1)) (steps p) two)
      where
        one : (v : NodeId) → Has p v → (is_end s t v || not (has_node q v)) ≡ true
        one v h = go (has_node q v) refl
          where
            go : (b : Bool) → has_node q v ≡ b → (is_end s t v || not (has_node q v)) ≡ true
            go true e = or_first (is_end s t v) (not (has_node q v)) ((end_is s t v).1 (a.nodes v (contains p v h) (contains q v ((has_node_is q v).0 e))))
            go false e = or_true (is_end s t v) (not (has_node q v)) (ap not e)

        two : (x : NodeId × NodeId) → Has (steps p) x → not (has_step q x.0 x.1) ≡ true
        two x h = not_true (has_step q x.0 x.1) (λ e. a.edges x.0 x.1 (contains (steps p) x h) (go ((has_step_is q x.0 x.1).0 e)))
          where
            go : Has (steps q) (x.0, x.1) ⊎ Has (steps q) (x.1, x.0) → Contains (steps q) (x.0, x.1) ⊎ Contains (steps q) (x.1, x.0)
            go (inl k) = inl (contains (steps q) (x.0, x.1) k)
            go (inr k) = inr (contains (steps q) (x.1, x.0) k)

-- ---- many paths

-- the test that paths share no inner node says so exactly
pub all_apart_is : (s t : NodeId) (paths : List (List NodeId)) → (all_apart s t paths ≡ true) ↔ AllPairs (Apart s t) paths
all_apart_is s t [] = (λ e i j d less inside. absurd (omega (arith, inside)), λ pairs. refl)
all_apart_is s t (p ∷ paths) = (when (all_apart_is s t paths).0, back (all_apart_is s t paths).1)
  where
    when : (all_apart s t paths ≡ true → AllPairs (Apart s t) paths) → all_apart s t (p ∷ paths) ≡ true → AllPairs (Apart s t) (p ∷ paths)
    when rest e =
        let k = both_true (list_all (are_apart s t p) paths) (all_apart s t paths) e in
        AllPairs-cons (Apart s t) p paths ((all_is (Apart s t p) (are_apart s t p) (apart_is s t p) paths).0 k.0) (rest k.1)

    back : (AllPairs (Apart s t) paths → all_apart s t paths ≡ true) → AllPairs (Apart s t) (p ∷ paths) → all_apart s t (p ∷ paths) ≡ true
    back rest pairs =
        both (list_all (are_apart s t p) paths) (all_apart s t paths)
        ((all_is (Apart s t p) (are_apart s t p) (apart_is s t p) paths).1 (λ k d inside. pairs 0 (suc k) d (omega arith) (omega (arith, inside))))
        (rest (λ i j d less inside. pairs (suc i) (suc j) d (omega (arith, less)) (omega (arith, inside))))
