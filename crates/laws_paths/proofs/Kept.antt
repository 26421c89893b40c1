-- The arcs of a path are arcs of the split graph.
use Rattle.std.proofs.Common.{◌≡◌, ◌<◌, ◌≤◌, ◌+◌, ℕ, zero, suc, Bool, true, false, List, [], ◌∷◌, ◌++◌, map, length, cond, refl, sym, ap, subst, ◌∙◌, inl, inr}
use Rattle.std.proofs.Common.{arith}
use Rattle.std.specs.Prelude.{◌⊎◌, ◌&&◌, ◌==◌, slice_index_or}
use Rattle.std.specs.List.{filter, flat_map, range_with_len}
use Rattle.std.proofs.lemmas.Bool.{eqb-true}
use Rattle.std.proofs.lemmas.Bool.Decides.{nat_tests}
use Rattle.sp_base.specs.declared.id.NodeId.{NodeId}
use Rattle.sp_topology.specs.declared.topology.Edge.{Edge}
use Rattle.sp_graph.proofs.GraphLemmas.{HasEnds, between_ends}
use Rattle.sp_graph.specs.declared.graph.Graph.{Graph}
use Rattle.sp_graph.specs.declared.part.Part.{Part}
use Rattle.sp_graph.specs.declared.part.Part.TheVariants as parts
use Rattle.sp_graph.specs.Edges.{IsEdge, IsGraph}
use Rattle.sp_graph.specs.Split.{Arc, arcs_of, edge_arc, edge_arcs, is_same, node_arc, nodes_to, stays}
use Rattle.sp_graph.specs.Walks.{Joined, is_between, steps, weight_between}
use Rattle.laws_paths.proofs.Lists.{Distinct, Has, has, has_left, has_map, has_right, held, not_last}
use Rattle.laws_paths.proofs.Ways.{Kind, Along, Across, Way, arc_at, kind, line, step_from, step_into, step_to, ways}

-- nodes of one number are equal
pub same_node : (u v : NodeId) → u.0 ≡ v.0 → u ≡ v
same_node u v e = let node : ℕ → NodeId = λ n. record { 0 = n } in ap node e

-- parts that are told as the same are equal
pub is_same_true : (p q : Part) → is_same p q ≡ true → p ≡ q
is_same_true (parts.In u) (parts.In v) e = ap parts.In (same_node u v (eqb-true _ _ e))
is_same_true (parts.In u) (parts.Out v) e = absurd cc
is_same_true (parts.Out u) (parts.In v) e = absurd cc
is_same_true (parts.Out u) (parts.Out v) e = ap parts.Out (same_node u v (eqb-true _ _ e))

-- a number is told as the same as itself
pub same_number : (n : ℕ) → (n == n) ≡ true
same_number n = grind (arith, nat_tests)

-- numbers that differ are told as different
pub other_number : (n m : ℕ) → (n ≡ m → ⊥) → (n == m) ≡ false
other_number n m apart = go (n == m) refl
  where
    go : (b : Bool) → (n == m) ≡ b → (n == m) ≡ false
    go true e = absurd (apart (eqb-true _ _ e))
    go false e = e

-- a part is told as the same as itself
pub is_same_itself : (p : Part) → is_same p p ≡ true
is_same_itself (parts.In u) = same_number u.0
is_same_itself (parts.Out u) = same_number u.0

-- where both together are so, each is
pub both_true : (a b : Bool) → (a && b) ≡ true → (a ≡ true) × (b ≡ true)
both_true true b e = (refl, e)
both_true false b e = absurd cc

-- what passes a test is among what passes
pub has_filter : {X : Type 0} (test : X → Bool) (xs : List X) (a : X) → Has xs a → test a ≡ true → Has (filter test xs) a
has_filter test [] a h e = absurd h
has_filter test (x ∷ xs) a (inl f) e = let is : test x ≡ true = ap test f ∙ e in rw is (inl f)
has_filter {X} test (x ∷ xs) a (inr h) e = go (test x) (has_filter test xs a h e)
  where
    go : (b : Bool) → Has (filter test xs) a → Has (cond b (x ∷ filter test xs) (filter test xs)) a
    go true k = inr k
    go false k = k

has_range : (a n x : ℕ) → a ≤ x → x < a + n → Has (range_with_len a n) x
has_range a zero x low high = absurd (omega (arith, low, high))
has_range a (suc n) x low high = go (a == x) refl (λ above. has_range (a + 1) n x above (omega (arith, high)))
  where
    go : (b : Bool) → (a == x) ≡ b → (a + 1 ≤ x → Has (range_with_len (a + 1) n) x) → Has (range_with_len a (suc n)) x
    go true e rest = inl (eqb-true _ _ e)
    go false e rest = inr (rest (grind (arith, nat_tests)))

-- each number from 1 to that of all nodes is a node's
pub has_node : (nodes : ℕ) (v : NodeId) → 1 ≤ v.0 → v.0 ≤ nodes → Has (nodes_to nodes) v
has_node nodes v low high = let node : ℕ → NodeId = λ n. record { 0 = n } in
    has_map node (range_with_len 1 nodes) v.0 (has_range 1 nodes v.0 low (omega (arith, high)))

-- an edge between two nodes has them as its ends
ends : (u v : NodeId) (e : Edge) → is_between u v e ≡ true → ((e.low ≡ u) × (e.high ≡ v)) ⊎ ((e.low ≡ v) × (e.high ≡ u))
ends u v e is = go (between_ends u v e is)
  where
    go : HasEnds u v e → ((e.low ≡ u) × (e.high ≡ v)) ⊎ ((e.low ≡ v) × (e.high ≡ u))
    go (inl k) = inl (same_node e.low u k.0, same_node e.high v k.1)
    go (inr k) = inr (same_node e.low v k.0, same_node e.high u k.1)

-- an edge between the two stands in the list
abbrev pub Between : List Edge → NodeId → NodeId → Type 0
Between edges u v = (e : Edge) × Has edges e × (is_between u v e ≡ true)

has_edge_arc : (edges : List Edge) (u v : NodeId) → Between edges u v → Has (flat_map edge_arcs edges) (edge_arc u v (weight_between edges u v))
has_edge_arc [] u v at = absurd at.1
has_edge_arc (f ∷ edges) u v at = go (is_between u v f) refl (λ later. has_edge_arc edges u v later)
  where
    first : ((f.low ≡ u) × (f.high ≡ v)) ⊎ ((f.low ≡ v) × (f.high ≡ u)) → Has (flat_map edge_arcs (f ∷ edges)) (edge_arc u v f.weight)
    first (inl e) = inl (ap (λ (x : NodeId). edge_arc x f.high f.weight) e.0 ∙ ap (λ (x : NodeId). edge_arc u x f.weight) e.1)
    first (inr e) = inr (inl (ap (λ (x : NodeId). edge_arc x f.low f.weight) e.1 ∙ ap (λ (x : NodeId). edge_arc u x f.weight) e.0))

    later : is_between u v f ≡ false → Between edges u v
    later other = go_on at.1
      where
        go_on : Has (f ∷ edges) at.0 → Between edges u v
        go_on (inl e) = let same : is_between u v f ≡ true = ap (is_between u v) e ∙ at.2 in absurd (let x : true ≡ false = sym same ∙ other in cc)
        go_on (inr h) = (at.0, h, at.2)

    go : (b : Bool) → is_between u v f ≡ b → (Between edges u v → Has (flat_map edge_arcs edges) (edge_arc u v (weight_between edges u v)))
        → Has (flat_map edge_arcs (f ∷ edges)) (edge_arc u v (cond (is_between u v f) f.weight (weight_between edges u v)))
    go true e rest = rw e (first (ends u v f e))
    go false e rest = rw e (inr (inr (rest (later e))))

-- nodes that an arc of the graph joins have an edge between them
pub between : (g : Graph) (u v : NodeId) → Joined g (u, v) → Between g.edges u v
between g u v at = (at.1, at_place g.edges at.0 at.1 at.2 at.3, at.4)
  where
    at_place : (edges : List Edge) (k : ℕ) (e : Edge) → k < length edges → slice_index_or edges k e ≡ e → Has edges e
    at_place edges k e inside is = has edges e (k, inside, is)

-- both ends of a joined step are nodes
pub in_range : (g : Graph) (u v : NodeId) → IsGraph g → Between g.edges u v → (1 ≤ v.0) × (v.0 ≤ g.nodes)
in_range g u v good at = go (ends u v at.0 at.2)
  where
    of_edge : IsEdge g.nodes at.0
    of_edge = held (IsEdge g.nodes) g.edges at.0 good.edges at.1

    go : ((at.0.low ≡ u) × (at.0.high ≡ v)) ⊎ ((at.0.low ≡ v) × (at.0.high ≡ u)) → (1 ≤ v.0) × (v.0 ≤ g.nodes)
    go (inl e) = let same : at.0.high.0 ≡ v.0 = ap (λ (x : NodeId). x.0) e.1 in (omega (arith, same, of_edge), omega (arith, same, of_edge))
    go (inr e) = let same : at.0.low.0 ≡ v.0 = ap (λ (x : NodeId). x.0) e.0 in (omega (arith, same, of_edge), omega (arith, same, of_edge))

-- a part that is neither of the two left out is there
pub in_stays : (s t v : NodeId) → (v ≡ s → ⊥) → stays s t (parts.In v) ≡ true
in_stays s t v apart = let no = other_number v.0 s.0 (λ e. apart (same_node v s e)) in rw no refl

-- the exit of each node but the destination stays
pub out_stays : (s t v : NodeId) → (v ≡ t → ⊥) → stays s t (parts.Out v) ≡ true
out_stays s t v apart = let no = other_number v.0 t.0 (λ e. apart (same_node v t e)) in rw no refl

abbrev pub all_arcs : Graph → List Arc
all_arcs g = map node_arc (nodes_to g.nodes) ++ flat_map edge_arcs g.edges

abbrev pub is_there : NodeId → NodeId → Arc → Bool
is_there s t a = stays s t a.from && stays s t a.to

pub arcs_kept : (g : Graph) (s : NodeId) (inner : List NodeId) (t : NodeId) → IsGraph g → Distinct (line s inner t)
    → ((a b : NodeId) → Has (steps (line s inner t)) (a, b) → Between g.edges a b) → (w : Way) → Has (ways s inner t) w → Has (arcs_of g s t) (arc_at g w)
arcs_kept g s inner t good once joined w h = go (kind s inner t w h)
  where
    inner_arc : (v : NodeId) → Has inner v → Has (arcs_of g s t) (node_arc v)
    inner_arc v at =
        let into = step_into s inner t v at in
        let range = in_range g into.0 v good (joined into.0 v into.1) in
        let here : Has (all_arcs g) (node_arc v) =
        has_left (map node_arc (nodes_to g.nodes)) (flat_map edge_arcs g.edges) (node_arc v)
        (has_map node_arc (nodes_to g.nodes) v (has_node g.nodes v range.0 range.1)) in
        let one = in_stays s t v (λ e. once.0 (subst (Has (inner ++ t ∷ [])) e (has_left inner (t ∷ []) v at))) in
        let two = out_stays s t v (λ e. not_last inner t v once.1 at e) in
        has_filter (is_there s t) (all_arcs g) (node_arc v) here (rw (one, two) refl)

    step_arc : (a b : NodeId) → Has (steps (line s inner t)) (a, b) → Has (arcs_of g s t) (edge_arc a b (weight_between g.edges a b))
    step_arc a b at =
        let arc = edge_arc a b (weight_between g.edges a b) in
        let here : Has (all_arcs g) arc =
        has_right (map node_arc (nodes_to g.nodes)) (flat_map edge_arcs g.edges) arc (has_edge_arc g.edges a b (joined a b at)) in
        let one = out_stays s t a (λ e. not_last (s ∷ inner) t a once (step_from s inner t a b at) e) in
        let two = in_stays s t b (λ e. once.0 (subst (Has (inner ++ t ∷ [])) e (step_to s inner t a b at))) in
        has_filter (is_there s t) (all_arcs g) arc here (rw (one, two) refl)

    go : Kind s inner t w → Has (arcs_of g s t) (arc_at g w)
    go (Along a b at is) = subst (λ (x : Way). Has (arcs_of g s t) (arc_at g x)) (sym is) (step_arc a b at)
    go (Across v at is) = subst (λ (x : Way). Has (arcs_of g s t) (arc_at g x)) (sym is) (inner_arc v at)
