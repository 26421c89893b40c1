-- The lanes out of the source stand in the order of the nodes that they lead to; so walks by their first lanes are paths in lexical order.
use Rattle.std.proofs.Common.{◌≡◌, ◌+◌, ◌*◌, ◌<◌, ℕ, zero, suc, Bool, true, false, cond, List, [], ◌∷◌, ◌++◌, length, map, refl, sym, ap, subst, ◌∙◌, inl, inr}
use Rattle.std.proofs.Common.{arith}
use Rattle.std.specs.Prelude.{◌⊎◌}
use Rattle.std.specs.List.{All, AllPairs, filter, flat_map}
use Rattle.std.proofs.lemmas.List.Kept.{AllPairs-cons}
use Rattle.sp_base.specs.declared.id.NodeId.{NodeId}
use Rattle.sp_topology.specs.declared.topology.Edge.{Edge}
use Rattle.sp_graph.specs.declared.graph.Graph.{Graph}
use Rattle.sp_graph.specs.declared.part.Part.{Part}
use Rattle.sp_graph.specs.declared.part.Part.TheVariants as parts
use Rattle.sp_graph.specs.Edges.{IsEdge, IsGraph, IsLower}
use Rattle.sp_graph.specs.Split.{Arc, arcs_of, edge_arc, edge_arcs, node_arc, nodes_to}
use Rattle.laws_paths.proofs.Kept.{all_arcs}
use Rattle.laws_paths.proofs.Lists.{Has, contains, has_either, held}
use Rattle.laws_paths.proofs.Ways.{Way, is_out, node_of, ways}
use Rattle.sp_paths.specs.declared.lane.Lane.{Lane}
use Rattle.sp_paths.specs.Lanes.{lane_at}
use Rattle.sp_paths.specs.Order.{IsBefore}
use Rattle.sp_paths.specs.Parts.{arc_of, is_there, number, part_at}
use Rattle.sp_paths.specs.Taken.{IsApart, Leads, first_of, joined}
use Rattle.sp_paths.specs.Visits.{path_along, way_of, ways_along}
use Rattle.sp_paths.proofs.ArcsOnce.{has_arc}
use Rattle.sp_paths.proofs.PathLemmas.{Laid, all_from, lay}
use Rattle.sp_paths.proofs.Places.{walk_in_joined}
use Rattle.sp_paths.proofs.Shapes.{from_filter, from_map, number_at}

-- ---- the arcs out of the source

-- of two arcs out of s the second leads to a later part
Later : NodeId → Arc → Arc → Type 0
Later s x y = x.from ≡ parts.Out s → y.from ≡ parts.Out s → number x.to < number y.to

Rising : NodeId → List Arc → Type 0
Rising s [] = Unit {0}
Rising s (x ∷ xs) = ((y : Arc) → Has xs y → Later s x y) × Rising s xs

rising_filter : (s : NodeId) (test : Arc → Bool) (xs : List Arc) → Rising s xs → Rising s (filter test xs)
unfolding Rising
rising_filter s test [] r = tt
rising_filter s test (x ∷ xs) r = go (test x) (rising_filter s test xs r.1)
  where
    go : (b : Bool) → Rising s (filter test xs) → Rising s (cond b (x ∷ filter test xs) (filter test xs))
    go true rest = ((λ y h. r.0 y (from_filter test xs y h).0), rest)
    go false rest = rest

rising_both : (s : NodeId) (xs ys : List Arc) → Rising s xs → Rising s ys → ((x y : Arc) → Has xs x → Has ys y → Later s x y) → Rising s (xs ++ ys)
unfolding Rising
rising_both s [] ys one two across = two
rising_both s (x ∷ xs) ys one two across = (λ y h. go y (has_either xs ys y h), rising_both s xs ys one.1 two (λ a b k m. across a b (inr k) m))
  where
    go : (y : Arc) → Has xs y ⊎ Has ys y → Later s x y
    go y (inl h) = one.0 y h
    go y (inr h) = across x y (inl refl) h

-- no arc through a node begins at an out-part
node_in : (ns : List NodeId) (x : Arc) (s : NodeId) → Has (map node_arc ns) x → x.from ≡ parts.Out s → ⊥
node_in ns x s h from =
    let (v, at, e) = from_map node_arc ns x h in
    let no : false ≡ true = ap (λ (a : Arc). is_out a.from) e ∙ ap is_out from in cc

rising_nodes : (s : NodeId) (ns : List NodeId) → Rising s (map node_arc ns)
unfolding Rising Later
rising_nodes s [] = tt
rising_nodes s (v ∷ ns) = ((λ y h from also. absurd (node_in (v ∷ ns) (node_arc v) s (inl refl) from)), rising_nodes s ns)

-- an arc of an edge leads along it one way or the other
of_edge : (edges : List Edge) (x : Arc) → Has (flat_map edge_arcs edges) x
    → (e : Edge) × Has edges e × (((x.from ≡ parts.Out e.low) × (x.to ≡ parts.In e.high)) ⊎ ((x.from ≡ parts.Out e.high) × (x.to ≡ parts.In e.low)))
of_edge [] x h = absurd h
of_edge (e ∷ edges) x (inl f) = (e, inl refl, inl (ap (λ (a : Arc). a.from) (sym f), ap (λ (a : Arc). a.to) (sym f)))
of_edge (e ∷ edges) x (inr (inl f)) = (e, inl refl, inr (ap (λ (a : Arc). a.from) (sym f), ap (λ (a : Arc). a.to) (sym f)))
of_edge (e ∷ edges) x (inr (inr h)) = let (f, at, ends) = of_edge edges x h in (f, inr at, ends)

out_node : (u v : NodeId) → parts.Out u ≡ parts.Out v → u.0 ≡ v.0
out_node u v e = ap (λ (p : Part). (node_of p).0) e

later_edge : (nodes : ℕ) (s : NodeId) (e f : Edge) (x y : Arc) → IsEdge nodes e → IsEdge nodes f → IsLower e f
    → ((x.from ≡ parts.Out e.low) × (x.to ≡ parts.In e.high)) ⊎ ((x.from ≡ parts.Out e.high) × (x.to ≡ parts.In e.low))
    → ((y.from ≡ parts.Out f.low) × (y.to ≡ parts.In f.high)) ⊎ ((y.from ≡ parts.Out f.high) × (y.to ≡ parts.In f.low)) → Later s x y
unfolding Later
later_edge nodes s e f x y one two lower (inl a) (inl b) from also =
    let at_e = out_node e.low s (sym a.0 ∙ from) in let at_f = out_node f.low s (sym b.0 ∙ also) in rw (a.1, b.1) (go lower at_e at_f)
  where
    go : IsLower e f → e.low.0 ≡ s.0 → f.low.0 ≡ s.0 → 2 * e.high.0 < 2 * f.high.0
    go (inl k) i j = omega (arith, k, i, j)
    go (inr k) i j = omega (arith, k.1)
later_edge nodes s e f x y one two lower (inl a) (inr b) from also =
    let at_e = out_node e.low s (sym a.0 ∙ from) in let at_f = out_node f.high s (sym b.0 ∙ also) in rw (a.1, b.1) (go lower at_e at_f)
  where
    go : IsLower e f → e.low.0 ≡ s.0 → f.high.0 ≡ s.0 → 2 * e.high.0 < 2 * f.low.0
    go (inl k) i j = omega (arith, k, i, j, two.1)
    go (inr k) i j = omega (arith, k.0, i, j, two.1)
later_edge nodes s e f x y one two lower (inr a) (inl b) from also =
    let at_e = out_node e.high s (sym a.0 ∙ from) in let at_f = out_node f.low s (sym b.0 ∙ also) in rw (a.1, b.1) (omega (arith, at_e, at_f, one.1, two.1))
later_edge nodes s e f x y one two lower (inr a) (inr b) from also =
    let at_e = out_node e.high s (sym a.0 ∙ from) in let at_f = out_node f.high s (sym b.0 ∙ also) in rw (a.1, b.1) (go lower at_e at_f)
  where
    go : IsLower e f → e.high.0 ≡ s.0 → f.high.0 ≡ s.0 → 2 * e.low.0 < 2 * f.low.0
    go (inl k) i j = omega (arith, k)
    go (inr k) i j = omega (arith, k.1, i, j)

-- of the two arcs of an edge one alone begins at s
one_edge : (nodes : ℕ) (s : NodeId) (e : Edge) (y : Arc) → IsEdge nodes e → (y.from ≡ parts.Out e.high) → parts.Out e.low ≡ parts.Out s → y.from ≡ parts.Out s
    → ⊥
one_edge nodes s e y good is from also = let low = out_node e.low s from in let high = out_node e.high s (sym is ∙ also) in omega (arith, low, high, good.1)

rising_edges : (nodes : ℕ) (s : NodeId) (edges : List Edge) → All (IsEdge nodes) edges → AllPairs IsLower edges → Rising s (flat_map edge_arcs edges)
unfolding Rising Later
rising_edges nodes s [] good ascend = tt
rising_edges nodes s (e ∷ edges) good ascend = (
  first,
  (
    second,
    rising_edges nodes s edges (λ k d inside. good (suc k) d (omega (arith, inside)))
        (λ i j d less inside. ascend (suc i) (suc j) d (omega (arith, less)) (omega (arith, inside))),
  ),
)
  where
    here : IsEdge nodes e
    here = good 0 e (omega arith)

    rest : (x y : Arc) → ((x.from ≡ parts.Out e.low) × (x.to ≡ parts.In e.high)) ⊎ ((x.from ≡ parts.Out e.high) × (x.to ≡ parts.In e.low))
        → Has (flat_map edge_arcs edges) y → Later s x y
    rest x y is h =
        let (f, at, ends) = of_edge edges y h in
        let place = contains edges f at in
        let there : IsEdge nodes f = held (IsEdge nodes) (e ∷ edges) f good (inr at) in
        let lower : IsLower e f = subst (IsLower e) place.2 (ascend 0 (suc place.0) f (omega arith) (omega (arith, place.1))) in
        later_edge nodes s e f x y here there lower is ends

    first : (y : Arc) → Has (edge_arc e.high e.low e.weight ∷ flat_map edge_arcs edges) y → Later s (edge_arc e.low e.high e.weight) y
    first y (inl f) = λ from also. absurd (one_edge nodes s e y here (ap (λ (a : Arc). a.from) (sym f)) from also)
    first y (inr h) = rest (edge_arc e.low e.high e.weight) y (inl (refl, refl)) h

    second : (y : Arc) → Has (flat_map edge_arcs edges) y → Later s (edge_arc e.high e.low e.weight) y
    second y h = rest (edge_arc e.high e.low e.weight) y (inr (refl, refl)) h

rising_arcs : (g : Graph) (s t : NodeId) → IsGraph g → Rising s (arcs_of g s t)
unfolding Later
rising_arcs g s t good =
    rising_filter s (is_there s t) (all_arcs g)
    (rising_both s (map node_arc (nodes_to g.nodes)) (flat_map edge_arcs g.edges) (rising_nodes s (nodes_to g.nodes))
    (rising_edges g.nodes s g.edges good.edges good.ascend)
    (λ x y h k from also. absurd (node_in (nodes_to g.nodes) x s h from)))

-- of two lanes out of the source the later one leads to the later part
rising_lanes : (s : NodeId) (lanes : List Lane) (i j : ℕ) → Rising s (map arc_of lanes) → i < j → j < length lanes
    → part_at (lane_at lanes i).from ≡ parts.Out s → part_at (lane_at lanes j).from ≡ parts.Out s → (lane_at lanes i).to < (lane_at lanes j).to
unfolding Rising Later
rising_lanes s [] i j r less inside from also = absurd (omega (arith, inside))
rising_lanes s (l ∷ lanes) zero zero r less inside from also = absurd (omega (arith, less))
rising_lanes s (l ∷ lanes) (suc i) zero r less inside from also = absurd (omega (arith, less))
rising_lanes s (l ∷ lanes) zero (suc j) r less inside from also =
    let up = r.0 (arc_of (lane_at lanes j)) (has_arc lanes (map arc_of lanes) refl j (omega (arith, inside))) from also in
    omega (arith, up, number_at l.to, number_at (lane_at lanes j).to)
rising_lanes s (l ∷ lanes) (suc i) (suc j) r less inside from also = rising_lanes s lanes i j r.1 (omega (arith, less)) (omega (arith, inside)) from also

-- ---- the paths of walks

-- how a walk from s begins: with a lane out of s, to the path's second node
record Begins (lanes : List Lane) (s : NodeId) (walk : List ℕ) : Type 0 where
  next : NodeId
  rest : List NodeId
  path : path_along lanes s walk ≡ s ∷ next ∷ rest
  inside : first_of walk < length lanes
  from : part_at (lane_at lanes (first_of walk)).from ≡ parts.Out s
  to : (lane_at lanes (first_of walk)).to ≡ 2 * next.0

first_way : Way → List Way → Way
first_way d [] = d
first_way d (w ∷ ws) = w

module _ (g : Graph) (s t : NodeId) (right : IsGraph g) (old new : List Lane) (is : map arc_of old ≡ arcs_of g s t) (k : ℕ) (walks : List (List ℕ))
    (taken : IsApart old new (number (parts.Out s)) (number (parts.In t)) k walks) where
  inside : (walk : List ℕ) → Has walks walk → (i : ℕ) → Has walk i → i < length old
  inside walk h i at = taken.taken.inside i (contains (joined walks) i (walk_in_joined walks walk i h at))

  begins : (walk : List ℕ) → Has walks walk → Begins old s walk
  unfolding first_way
  begins [] h =
      absurd (let e : 2 * s.0 + 1 ≡ 2 * t.0 = held (λ w. Leads old (number (parts.Out s)) w (number (parts.In t))) walks [] taken.lead h in omega (arith, e))
  begins (i ∷ walk) h = go l.inner l.path l.ways_here
    where
      l : Laid g s t old (i ∷ walk)
      l = lay g s t old is (i ∷ walk) (inside (i ∷ walk) h) (held (λ w. Leads old (number (parts.Out s)) w (number (parts.In t))) walks (i ∷ walk) taken.lead h)

      made : (next : NodeId) (rest : List NodeId) → path_along old s (i ∷ walk) ≡ s ∷ next ∷ rest → way_of (lane_at old i) ≡ (parts.Out s, parts.In next)
          → Begins old s (i ∷ walk)
      made next rest path way = record {
        next = next;
        rest = rest;
        path = path;
        inside = inside (i ∷ walk) h i (inl refl);
        from = ap (λ (w : Way). w.0) way;
        to = sym (number_at (lane_at old i).to) ∙ ap (λ (w : Way). number w.1) way;
      }

      go : (inner : List NodeId) → path_along old s (i ∷ walk) ≡ s ∷ (inner ++ t ∷ []) → ways_along old (i ∷ walk) ≡ ways s inner t → Begins old s (i ∷ walk)
      go [] path here = made t [] path (ap (first_way (parts.In s, parts.In s)) here)
      go (v ∷ vs) path here = made v (vs ++ t ∷ []) path (ap (first_way (parts.In s, parts.In s)) here)

  before : (v w : List ℕ) → Has walks v → Has walks w → first_of v < first_of w → IsBefore (path_along old s v) (path_along old s w)
  before v w h m less =
      let one = begins v h in
      let two = begins w m in
      let up = rising_lanes s old (first_of v) (first_of w) (subst (Rising s) (sym is) (rising_arcs g s t right)) less two.inside one.from two.from in
      let ahead : IsBefore (s ∷ one.next ∷ one.rest) (s ∷ two.next ∷ two.rest) = inr (refl, inl (omega (arith, up, one.to, two.to))) in
      subst (λ (p : List NodeId). IsBefore p (path_along old s w)) (sym one.path) (subst (IsBefore (s ∷ one.next ∷ one.rest)) (sym two.path) ahead)

  in_order : (ws : List (List ℕ)) → ((w : List ℕ) → Has ws w → Has walks w) → AllPairs (λ v w. first_of v < first_of w) ws
      → AllPairs IsBefore (map (λ walk. path_along old s walk) ws)
  in_order [] among ascend = λ i j d less at. absurd (omega (arith, at))
  in_order (w ∷ ws) among ascend =
      let path : List ℕ → List NodeId = λ walk. path_along old s walk in
      AllPairs-cons IsBefore (path w) (map path ws) (all_from (IsBefore (path w)) (map path ws) (λ p h.
      let (v, at, e) = from_map path ws p h in
      let place = contains ws v at in
      let up : first_of w < first_of v =
      subst (λ (x : List ℕ). first_of w < first_of x) place.2 (ascend 0 (suc place.0) v (omega arith) (omega (arith, place.1))) in
      subst (IsBefore (path w)) e (before w v (among w (inl refl)) (among v (inr at)) up)))
      (in_order ws (λ v h. among v (inr h)) (λ i j d less at. ascend (suc i) (suc j) d (omega (arith, less)) (omega (arith, at))))

  pub walks_in_order : AllPairs IsBefore (map (λ walk. path_along old s walk) walks)
  walks_in_order = in_order walks (λ w h. h) (taken.ascend (λ e. absurd (omega (arith, e))))
