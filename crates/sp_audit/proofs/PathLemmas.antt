-- What a walk over nodes finds out of a path.
use Rattle.std.proofs.Common.{◌≡◌, ◌<◌, ◌≤◌, ℕ, zero, suc, ◌+◌, Bool, true, false, ◌&&◌, ◌||◌, eqb, nat_le, map, IsTrue, List, [], ◌∷◌, ◌++◌, length, take}
use Rattle.std.proofs.Common.{drop, All, get_or, refl, sym, ap, subst, ◌∙◌, inl, inr, arith, ◌-◌, min, length-append}
use Rattle.std.specs.Prelude.{◌==◌, ◌≢◌}
use Rattle.std.specs.List.{AllPairs, Any, list_any}
use Rattle.std.proofs.lemmas.Bool.{cases_Bool, eq-eqb, eqb-true}
use Rattle.std.proofs.lemmas.Bool.Decides.{Decides-eqb, nat_tests}
use Rattle.std.proofs.lemmas.List.{length-map}
use Rattle.std.proofs.Math.ListN.{get_or-map}
use Rattle.std.proofs.lemmas.List.Elements.{All-head, All-tail, All-weaker}
use Rattle.std.proofs.lemmas.Map.Made.{IsDistinct-from_AllPairs}
use Rattle.std.proofs.lemmas.Map.Steps.{length-le_from_distinct_below}
use Rattle.sp_base.specs.declared.id.NodeId.{NodeId}
use Rattle.sp_graph.specs.Walks.{is_between, steps}
use Rattle.sp_runs.specs.Scenarios.{setting_of}
use Rattle.sp_runs.specs.Settings.{is_correct, is_node}
use Rattle.sp_schedule_events.specs.declared.scenario.Scenario.{Scenario}
use Rattle.sp_topology.specs.declared.topology.Edge.{Edge}
use Rattle.sp_audit.proofs.Hops.{cases_below, count_steps}
use Rattle.sp_audit.proofs.Nodes.{node_is}
use Rattle.sp_audit.proofs.Walks.{or_second, take_all}
use Rattle.sp_audit.proofs.SweepLemmas.{drop_past}
use Rattle.sp_audit.proofs.Nodes.{same_node}

pub get_same : {X : Type 0} (xs : List X) (k : ℕ) (c d : X) → k < length xs → get_or xs k c ≡ get_or xs k d
get_same [] k c d below = absurd (omega (arith, below))
get_same (x ∷ xs) zero c d below = refl
get_same (x ∷ xs) (suc k) c d below = get_same xs k c d (omega (arith, below))

pub among_before : (path : List NodeId) (n : ℕ) (u : NodeId) → list_any (λ (v : NodeId). v.0 == u.0) (take n path) ≡ true
    → (k : ℕ) × (k < n) × (k < length path) × ((d : NodeId) → get_or path k d ≡ u)
among_before path zero u is = absurd cc
among_before [] (suc n) u is = absurd cc
among_before (v ∷ path) (suc n) u is = elim (cases_Bool (v.0 == u.0)) [
  | inl same ↦ (0, omega arith, omega arith, λ d. same_node v u same)
  | inr other ↦ (let rest = among_before path n u (rw other at is) in (suc rest.0, omega (arith, rest.1), omega (arith, rest.2), rest.3))
]

pub not_among : (path : List NodeId) (n : ℕ) (u : NodeId) → list_any (λ (v : NodeId). v.0 == u.0) (take n path) ≡ false → (k : ℕ) (d : NodeId) → k < n
    → k < length path → get_or path k d ≡ u → ⊥
not_among [] n u is k d few below same = absurd (omega (arith, below))
not_among (v ∷ path) zero u is k d few below same = absurd (omega (arith, few))
not_among (v ∷ path) (suc n) u is zero d few below same =
    clash (v.0 == u.0) (list_any (λ (w : NodeId). w.0 == u.0) (take n path)) (eq-eqb v.0 u.0 (ap (λ (w : NodeId). w.0) same)) is
  where
    clash : (a b : Bool) → a ≡ true → (a || b) ≡ false → ⊥
    clash true b is is_not = cc
    clash false b is is_not = cc
not_among (v ∷ path) (suc n) u is (suc k) d few below same =
    not_among path n u (second (v.0 == u.0) (list_any (λ (w : NodeId). w.0 == u.0) (take n path)) is) k d (omega (arith, few)) (omega (arith, below)) same
  where
    second : (a b : Bool) → (a || b) ≡ false → b ≡ false
    second true b is = absurd cc
    second false b is = is

-- ---- edges

pub any_there : {X : Type 0} (p : X → Bool) (xs : List X) → list_any p xs ≡ true → Any (λ x. p x ≡ true) xs
any_there p [] is = absurd cc
any_there p (x ∷ xs) is = elim (cases_Bool (p x)) [
  | inl here ↦ (0, x, omega arith, refl, here)
  | inr other ↦ (let rest = any_there p xs (rw other at is) in (suc rest.0, rest.1, omega (arith, rest.2), rest.3, rest.4))
]

any_gives : {X : Type 0} (p : X → Bool) (xs : List X) (k : ℕ) (x : X) → k < length xs → get_or xs k x ≡ x → p x ≡ true → list_any p xs ≡ true
any_gives p [] k x below at is = absurd (omega (arith, below))
any_gives p (y ∷ xs) zero x below at is = ap (λ (t : Bool). t || list_any p xs) (ap p at ∙ is)
any_gives p (y ∷ xs) (suc k) x below at is = or_second (p y) (list_any p xs) (any_gives p xs k x (omega (arith, below)) at is)

pub steps_at : (path : List NodeId) (k : ℕ) (d : NodeId × NodeId) (c e : NodeId) → suc k < length path
    → get_or (steps path) k d ≡ (get_or path k c, get_or path (suc k) e)
steps_at [] k d c e below = absurd (omega (arith, below))
steps_at (x ∷ []) k d c e below = absurd (omega (arith, below))
steps_at (x ∷ (y ∷ path)) zero d c e below = refl
steps_at (x ∷ (y ∷ path)) (suc k) d c e below = steps_at (y ∷ path) k d c e (omega (arith, below))

steps_long : (path : List NodeId) (k : ℕ) → suc k < length path → k < length (steps path)
steps_long [] k below = absurd (omega (arith, below))
steps_long (x ∷ []) k below = absurd (omega (arith, below))
steps_long (x ∷ (y ∷ path)) zero below = omega arith
steps_long (x ∷ (y ∷ path)) (suc k) below = let rest = steps_long (y ∷ path) k (omega (arith, below)) in omega (arith, rest)

abbrev AreJoined : List Edge → NodeId × NodeId → Type 0
AreJoined edges step = Any (λ e. is_between step.0 step.1 e ≡ true) edges

pub not_joined : (path : List NodeId) (edges : List Edge) (place : ℕ) (o : NodeId) → 1 ≤ place → place < length path
    → list_any (is_between (get_or path (place - 1) o) (get_or path place o)) edges ≡ false
    → All (λ step. Any (λ e. is_between step.0 step.1 e ≡ true) edges) (steps path) → ⊥
not_joined path edges zero o some below none all = absurd (omega (arith, some))
not_joined path edges (suc i) o some below none all =
    let at : suc i - 1 ≡ i = omega arith in
    let there = subst (AreJoined edges) (steps_at path i (o, o) o o below) (all i (o, o) (steps_long path i below)) in
    let is : list_any (is_between (get_or path i o) (get_or path (suc i) o)) edges ≡ true =
    any_gives (is_between (get_or path i o) (get_or path (suc i) o)) edges there.0 there.1 there.2 there.3 there.4 in
    clash (list_any (is_between (get_or path i o) (get_or path (suc i) o)) edges) is
    (subst (λ (k : ℕ). list_any (is_between (get_or path k o) (get_or path (suc i) o)) edges ≡ false) at none)
  where
    clash : (t : Bool) → t ≡ true → t ≡ false → ⊥
    clash true is is_not = cc
    clash false is is_not = cc

pub joined_more : (path : List NodeId) (edges : List Edge) (place : ℕ) (o : NodeId) → 1 ≤ place → place < length path
    → list_any (is_between (get_or path (place - 1) o) (get_or path place o)) edges ≡ true
    → ((k : ℕ) (c d : NodeId) → suc k < place → Any (λ e. is_between (get_or path k c) (get_or path (suc k) d) e ≡ true) edges)
    → (k : ℕ) (c d : NodeId) → suc k < place + 1 → Any (λ e. is_between (get_or path k c) (get_or path (suc k) d) e ≡ true) edges
joined_more path edges zero o some below is earlier k c d within = absurd (omega (arith, some))
joined_more path edges (suc i) o some below is earlier k c d within = elim (cases_below (suc i) (suc k)) [
  | inl most ↦ last k (omega (arith, most, within)) c d
  | inr before ↦ earlier k c d before
]
  where
    last : (k : ℕ) → i ≡ k → (c d : NodeId) → Any (λ e. is_between (get_or path k c) (get_or path (suc k) d) e ≡ true) edges
    last k same c d =
        let at : suc i - 1 ≡ i = omega arith in
        let here = any_there (is_between (get_or path i o) (get_or path (suc i) o)) edges
        (subst (λ (n : ℕ). list_any (is_between (get_or path n o) (get_or path (suc i) o)) edges ≡ true) at is) in
        subst (λ (n : ℕ). Any (λ e. is_between (get_or path n c) (get_or path (suc n) d) e ≡ true) edges) same
        (subst (λ (u : NodeId). Any (λ e. is_between u (get_or path (suc i) d) e ≡ true) edges) (get_same path i o c (omega (arith, below)))
        (subst (λ (v : NodeId). Any (λ e. is_between (get_or path i o) v e ≡ true) edges) (get_same path (suc i) o d below) here))

pub all_joined : (path : List NodeId) (edges : List Edge) (place : ℕ) → length path ≤ place
    → ((k : ℕ) (c d : NodeId) → suc k < place → Any (λ e. is_between (get_or path k c) (get_or path (suc k) d) e ≡ true) edges)
    → All (λ step. Any (λ e. is_between step.0 step.1 e ≡ true) edges) (steps path)
all_joined path edges place past earlier = λ k d within.
    let long = count_steps path in
    subst (AreJoined edges) (sym (steps_at path k d d.0 d.1 (omega (arith, long, within)))) (earlier k d.0 d.1 (omega (arith, long, within, past)))

-- ---- ends

last_of : (y : NodeId) (ys : List NodeId) → (inner : List NodeId) × (d : NodeId) × (y ∷ ys ≡ inner ++ d ∷ [])
last_of y [] = ([], y, refl)
last_of y (z ∷ ys) = let rest = last_of z ys in (y ∷ rest.0, rest.1, ap (λ (us : List NodeId). y ∷ us) rest.2)

pub ends_of : (path : List NodeId) → 2 ≤ length path → (s : NodeId) × (d : NodeId) × (inner : List NodeId) × (path ≡ s ∷ (inner ++ d ∷ []))
ends_of [] long = absurd (omega (arith, long))
ends_of (x ∷ []) long = absurd (omega (arith, long))
ends_of (x ∷ (y ∷ path)) long = let rest = last_of y path in (x, rest.1, rest.0, ap (λ (us : List NodeId). x ∷ us) rest.2)

pub long_enough : (path inner : List NodeId) (s d : NodeId) → path ≡ s ∷ (inner ++ d ∷ []) → 2 ≤ length path
long_enough path inner s d is = let long = ap length is in let sum = length-append inner (d ∷ []) in omega (arith, long, sum)

pub first_is : (path inner : List NodeId) (s d o : NodeId) → path ≡ s ∷ (inner ++ d ∷ []) → get_or path 0 o ≡ s
first_is path inner s d o is = ap (λ (us : List NodeId). get_or us 0 o) is

pub last_is : (path inner : List NodeId) (s d o : NodeId) → path ≡ s ∷ (inner ++ d ∷ []) → get_or path (length path - 1) o ≡ d
last_is path inner s d o is =
    let long = ap length is in
    let sum = length-append inner (d ∷ []) in
    let at : length path - 1 ≡ suc (length inner) = omega (arith, long, sum) in
    ap (λ (k : ℕ). get_or path k o) at ∙ ap (λ (us : List NodeId). get_or us (suc (length inner)) o) is ∙ end_of inner
  where
    end_of : (us : List NodeId) → get_or (us ++ d ∷ []) (length us) o ≡ d
    end_of [] = refl
    end_of (u ∷ us) = end_of us

pub take_least : {X : Type 0} (xs : List X) (k : ℕ) → take (min k (length xs)) xs ≡ take k xs
take_least xs k = elim (cases_below k (length xs)) [
  | inl most ↦ ap (λ (n : ℕ). take n xs) (omega (arith, most))
  | inr past ↦ ap (λ (n : ℕ). take n xs) (omega (arith, past)) ∙ take_all xs (length xs) (omega arith) ∙ sym (take_all xs k (omega (arith, past)))
]

pub drop_least : {X : Type 0} (xs : List X) (k : ℕ) → drop (min k (length xs)) xs ≡ drop k xs
drop_least xs k = elim (cases_below k (length xs)) [
  | inl most ↦ ap (λ (n : ℕ). drop n xs) (omega (arith, most))
  | inr past ↦ ap (λ (n : ℕ). drop n xs) (omega (arith, past)) ∙ drop_past xs (length xs) (omega arith) ∙ sym (drop_past xs k (omega (arith, past)))
]

-- ---- how long a path is

apart_ids : (path : List NodeId) → AllPairs (λ u v. u ≢ v) path → AllPairs (λ a b. a ≢ b) (map (λ (u : NodeId). u.0) path)
apart_ids path apart i j d less below =
    let long = length-map path (λ (u : NodeId). u.0) in
    let there : j < length path = omega (arith, below, long) in
    λ same. apart i j (record { 0 = d }) less there
    (ap (λ (n : ℕ). record { 0 = n })
    (sym (get_or-map (λ (u : NodeId). u.0) path i (record { 0 = d })) ∙ same ∙ get_or-map (λ (u : NodeId). u.0) path j (record { 0 = d })))

below_all : (n q : ℕ) (path : List NodeId) → All (λ u. u.0 < n) path → list_any (eqb q) (map (λ (u : NodeId). u.0) path) ≡ true → q < n
below_all n q [] all is = absurd (let f : false ≡ true = is in cc)
below_all n q (u ∷ path) all is = elim (cases_Bool (eqb q u.0)) [
  | inl t ↦ (let here = All-head (λ (v : NodeId). v.0 < n) u path all in let same : q ≡ u.0 = eqb-true q u.0 t in omega (arith, here, same))
  | inr t ↦ below_all n q path (All-tail (λ (v : NodeId). v.0 < n) u path all) (rw t at is)
]

-- as many numbers as there are nodes
pub no_longer : (path : List NodeId) (n : ℕ) → All (λ u. u.0 < n) path → AllPairs (λ u v. u ≢ v) path → length path ≤ n
no_longer path n below apart =
    let ids = map (λ (u : NodeId). u.0) path in
    let few = length-le_from_distinct_below ids n (IsDistinct-from_AllPairs Decides-eqb ids (apart_ids path apart)) (λ q is. below_all n q path below is) in
    omega (arith, few, length-map path (λ (u : NodeId). u.0))

pub correct_below : (s : Scenario) (path : List NodeId) → s.graph.nodes < 256 → All (λ u. IsTrue (is_correct (setting_of s) u)) path → All (λ u. u.0 < 256) path
correct_below s path few all =
    All-weaker (λ u. IsTrue (is_correct (setting_of s) u)) (λ u. u.0 < 256)
    (λ u is. in_range u.0 s.graph.nodes few (sym (node_is s u) ∙ first (is_node (setting_of s) u) _ is)) path all
  where
    first : (a b : Bool) → (a && b) ≡ true → a ≡ true
    first true b is = refl
    first false b is = absurd (let f : false ≡ true = is in cc)

    in_range : (u n : ℕ) → n < 256 → (nat_le 1 u && nat_le u n) ≡ true → u < 256
    in_range u n few is = grind (arith, nat_tests, few, is)
