-- Each arc of the split graph stands there once, so no two lanes have the same ends.
use Rattle.std.proofs.Common.{◌≡◌, ◌+◌, ◌<◌, ◌≤◌, ℕ, zero, suc, Bool, true, false, cond, List, [], ◌∷◌, ◌++◌, length, map, refl, sym, ap, subst, ◌∙◌, inl, inr}
use Rattle.std.proofs.Common.{arith}
use Rattle.std.specs.Prelude.{◌⊎◌}
use Rattle.std.specs.List.{All, AllPairs, filter, flat_map, range_with_len}
use Rattle.std.proofs.lemmas.List.{map-append}
use Rattle.std.proofs.lemmas.List.Elements.{All-head, All-tail}
use Rattle.sp_base.specs.declared.id.NodeId.{NodeId}
use Rattle.sp_topology.specs.declared.topology.Edge.{Edge}
use Rattle.sp_graph.specs.declared.graph.Graph.{Graph}
use Rattle.sp_graph.specs.declared.part.Part.TheVariants as parts
use Rattle.sp_graph.specs.Edges.{IsEdge, IsGraph, IsLower}
use Rattle.sp_graph.specs.Split.{Arc, arcs_of, edge_arcs, node_arc, nodes_to}
use Rattle.laws_paths.proofs.Lists.{Distinct, Has, distinct_append, has_map, held}
use Rattle.laws_paths.proofs.Ways.{Way, is_out, node_of}
use Rattle.sp_paths.specs.declared.lane.Lane.{Lane}
use Rattle.sp_paths.specs.Lanes.{lane_at}
use Rattle.sp_paths.specs.Parts.{arc_of, is_there}
use Rattle.sp_paths.specs.Visits.{way_of}
use Rattle.sp_paths.proofs.Shapes.{from_filter, from_map}

abbrev pub ends_of : Arc → Way
ends_of a = (a.from, a.to)

distinct_map : {X Y : Type 0} (f : X → Y) (xs : List X) → ((x y : X) → f x ≡ f y → x ≡ y) → Distinct xs → Distinct (map f xs)
distinct_map f [] one once = tt
distinct_map f (x ∷ xs) one once = ((λ h. let (y, at, e) = from_map f xs (f x) h in once.0 (subst (Has xs) (one y x e) at)), distinct_map f xs one once.1)

distinct_filter : {X Y : Type 0} (f : X → Y) (test : X → Bool) (xs : List X) → Distinct (map f xs) → Distinct (map f (filter test xs))
distinct_filter f test [] once = tt
distinct_filter {X} {Y} f test (x ∷ xs) once = go (test x) (distinct_filter f test xs once.1)
  where
    go : (b : Bool) → Distinct (map f (filter test xs)) → Distinct (map f (cond b (x ∷ filter test xs) (filter test xs)))
    go true rest =
        ((λ h. let (y, at, e) = from_map f (filter test xs) (f x) h in once.0 (subst (Has (map f xs)) e (has_map f xs y (from_filter test xs y at).0))), rest)
    go false rest = rest

range_above : (a n x : ℕ) → Has (range_with_len a n) x → a ≤ x
range_above a zero x h = absurd h
range_above a (suc n) x (inl e) = omega (arith, e)
range_above a (suc n) x (inr h) = omega (arith, range_above (a + 1) n x h)

range_once : (a n : ℕ) → Distinct (range_with_len a n)
range_once a zero = tt
range_once a (suc n) = ((λ h. omega (arith, range_above (a + 1) n a h)), range_once (a + 1) n)

ways_of_nodes : (nodes : List NodeId) → map (λ v. (parts.In v, parts.Out v)) nodes ≡ map ends_of (map node_arc nodes)
ways_of_nodes [] = refl
ways_of_nodes (v ∷ nodes) = ap (λ (ws : List Way). (parts.In v, parts.Out v) ∷ ws) (ways_of_nodes nodes)

node_ways_once : (nodes : ℕ) → Distinct (map ends_of (map node_arc (nodes_to nodes)))
node_ways_once nodes =
    let node : ℕ → NodeId = λ n. record { 0 = n } in
    let nodes_once = distinct_map node (range_with_len 1 nodes) (λ m n e. ap (λ (v : NodeId). v.0) e) (range_once 1 nodes) in
    let way : NodeId → Way = λ v. (parts.In v, parts.Out v) in
    subst Distinct (ways_of_nodes (nodes_to nodes)) (distinct_map way (nodes_to nodes) (λ u v e. ap (λ (w : Way). node_of w.0) e) nodes_once)

-- the ends of an edge, one way or the other
abbrev pub IsWayOf : Edge → Way → Type 0
IsWayOf e w = (w ≡ (parts.Out e.low, parts.In e.high)) ⊎ (w ≡ (parts.Out e.high, parts.In e.low))

edge_way : (edges : List Edge) (w : Way) → Has (map ends_of (flat_map edge_arcs edges)) w → (e : Edge) × Has edges e × IsWayOf e w
edge_way [] w h = absurd h
edge_way (e ∷ edges) w (inl f) = (e, inl refl, inl (sym f))
edge_way (e ∷ edges) w (inr (inl f)) = (e, inl refl, inr (sym f))
edge_way (e ∷ edges) w (inr (inr h)) = let (f, at, is) = edge_way edges w h in (f, inr at, is)

-- two edges of which one is lower have no way in common
no_way : (nodes : ℕ) (e f : Edge) (w : Way) → IsEdge nodes e → IsEdge nodes f → IsLower e f → IsWayOf e w → IsWayOf f w → ⊥
no_way nodes e f w one two lower (inl a) (inl b) = go lower
  where
    from : e.low.0 ≡ f.low.0
    from = ap (λ (x : Way). (node_of x.0).0) (sym a ∙ b)

    to : e.high.0 ≡ f.high.0
    to = ap (λ (x : Way). (node_of x.1).0) (sym a ∙ b)

    go : IsLower e f → ⊥
    go (inl c) = omega (arith, c, from)
    go (inr c) = omega (arith, c.1, to)
no_way nodes e f w one two lower (inl a) (inr b) =
    let from : e.low.0 ≡ f.high.0 = ap (λ (x : Way). (node_of x.0).0) (sym a ∙ b) in
    let to : e.high.0 ≡ f.low.0 = ap (λ (x : Way). (node_of x.1).0) (sym a ∙ b) in
    omega (arith, from, to, one.1, two.1)
no_way nodes e f w one two lower (inr a) (inl b) =
    let from : e.high.0 ≡ f.low.0 = ap (λ (x : Way). (node_of x.0).0) (sym a ∙ b) in
    let to : e.low.0 ≡ f.high.0 = ap (λ (x : Way). (node_of x.1).0) (sym a ∙ b) in
    omega (arith, from, to, one.1, two.1)
no_way nodes e f w one two lower (inr a) (inr b) = go lower
  where
    from : e.high.0 ≡ f.high.0
    from = ap (λ (x : Way). (node_of x.0).0) (sym a ∙ b)

    to : e.low.0 ≡ f.low.0
    to = ap (λ (x : Way). (node_of x.1).0) (sym a ∙ b)

    go : IsLower e f → ⊥
    go (inl c) = omega (arith, c, to)
    go (inr c) = omega (arith, c.1, from)

edge_ways_once : (nodes : ℕ) (edges : List Edge) → All (IsEdge nodes) edges → AllPairs IsLower edges → Distinct (map ends_of (flat_map edge_arcs edges))
edge_ways_once nodes [] good ascend = tt
edge_ways_once nodes (e ∷ edges) good ascend = (
  first,
  (
    second,
    edge_ways_once nodes edges (All-tail (IsEdge nodes) e edges good)
        (λ i j d less inside. ascend (suc i) (suc j) d (omega (arith, less)) (omega (arith, inside))),
  ),
)
  where
    here : IsEdge nodes e
    here = All-head (IsEdge nodes) e edges good

    later : (w : Way) → IsWayOf e w → Has (map ends_of (flat_map edge_arcs edges)) w → ⊥
    later w is h =
        let (f, at, also) = edge_way edges w h in
        no_way nodes e f w here (held (IsEdge nodes) edges f (All-tail (IsEdge nodes) e edges good) at)
        (held (IsLower e) edges f (λ k d inside. ascend 0 (suc k) d (omega arith) (omega (arith, inside))) at) is also

    first : Has ((parts.Out e.high, parts.In e.low) ∷ map ends_of (flat_map edge_arcs edges)) (parts.Out e.low, parts.In e.high) → ⊥
    first (inl f) = let same : e.high.0 ≡ e.low.0 = ap (λ (x : Way). (node_of x.0).0) f in omega (arith, same, here.1)
    first (inr h) = later (parts.Out e.low, parts.In e.high) (inl refl) h

    second : Has (map ends_of (flat_map edge_arcs edges)) (parts.Out e.high, parts.In e.low) → ⊥
    second h = later (parts.Out e.high, parts.In e.low) (inr refl) h

pub arcs_once : (g : Graph) (s t : NodeId) → IsGraph g → Distinct (map ends_of (arcs_of g s t))
arcs_once g s t good =
    let nodes = map node_arc (nodes_to g.nodes) in
    let edges = flat_map edge_arcs g.edges in
    distinct_filter ends_of (is_there s t) (nodes ++ edges)
    (subst Distinct (sym (map-append ends_of nodes edges))
    (distinct_append (map ends_of nodes) (map ends_of edges) (node_ways_once g.nodes) (edge_ways_once g.nodes g.edges good.edges good.ascend) apart))
  where
    apart : (w : Way) → Has (map ends_of (map node_arc (nodes_to g.nodes))) w → Has (map ends_of (flat_map edge_arcs g.edges)) w → ⊥
    apart w h k =
        let (a, at, is) = from_map ends_of (map node_arc (nodes_to g.nodes)) w h in
        let (v, place, also) = from_map node_arc (nodes_to g.nodes) a at in
        let begins : is_out w.0 ≡ false = sym (ap (λ (b : Arc). is_out b.from) also ∙ ap (λ (x : Way). is_out x.0) is) in
        let (e, there, way) = edge_way g.edges w k in
        go w begins e way
      where
        go : (w : Way) → is_out w.0 ≡ false → (e : Edge) → IsWayOf e w → ⊥
        go w begins e (inl f) = let x : true ≡ false = ap (λ (x : Way). is_out x.0) (sym f) ∙ begins in absurd cc
        go w begins e (inr f) = let x : true ≡ false = ap (λ (x : Way). is_out x.0) (sym f) ∙ begins in absurd cc

-- ---- lanes

ends_are : (lanes : List Lane) → map way_of lanes ≡ map ends_of (map arc_of lanes)
ends_are [] = refl
ends_are (l ∷ lanes) = ap (λ (ws : List Way). way_of l ∷ ws) (ends_are lanes)

has_at : (lanes : List Lane) (i : ℕ) → i < length lanes → Has lanes (lane_at lanes i)
has_at [] i inside = absurd (omega (arith, inside))
has_at (l ∷ lanes) zero inside = inl refl
has_at (l ∷ lanes) (suc i) inside = inr (has_at lanes i (omega (arith, inside)))

same_place : (lanes : List Lane) → Distinct (map way_of lanes) → (i j : ℕ) → i < length lanes → j < length lanes
    → way_of (lane_at lanes i) ≡ way_of (lane_at lanes j) → i ≡ j
same_place [] once i j inside too e = absurd (omega (arith, inside))
same_place (l ∷ lanes) once zero zero inside too e = refl
same_place (l ∷ lanes) once zero (suc j) inside too e =
    absurd (once.0 (subst (Has (map way_of lanes)) (sym e) (has_map way_of lanes (lane_at lanes j) (has_at lanes j (omega (arith, too))))))
same_place (l ∷ lanes) once (suc i) zero inside too e =
    absurd (once.0 (subst (Has (map way_of lanes)) e (has_map way_of lanes (lane_at lanes i) (has_at lanes i (omega (arith, inside))))))
same_place (l ∷ lanes) once (suc i) (suc j) inside too e = ap (λ (n : ℕ). suc n) (same_place lanes once.1 i j (omega (arith, inside)) (omega (arith, too)) e)

pub has_arc : (lanes : List Lane) (arcs : List Arc) → map arc_of lanes ≡ arcs → (i : ℕ) → i < length lanes → Has arcs (arc_of (lane_at lanes i))
has_arc lanes arcs is i inside =
    subst (λ (as_arcs : List Arc). Has as_arcs (arc_of (lane_at lanes i))) is (has_map arc_of lanes (lane_at lanes i) (has_at lanes i inside))

pub place_once : (g : Graph) (s t : NodeId) (lanes : List Lane) → IsGraph g → map arc_of lanes ≡ arcs_of g s t → (i j : ℕ) → i < length lanes → j < length lanes
    → way_of (lane_at lanes i) ≡ way_of (lane_at lanes j) → i ≡ j
place_once g s t lanes good is = same_place lanes (subst Distinct (sym (ends_are lanes ∙ ap (map ends_of) is)) (arcs_once g s t good))
