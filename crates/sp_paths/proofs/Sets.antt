-- All walks of a flow together are disjoint paths, and the potentials of the search are their certificate.
use Rattle.std.proofs.Common.{◌≡◌, ◌+◌, ◌*◌, ◌<◌, ◌≤◌, ℕ, suc, Bool, true, false, cond, List, [], ◌∷◌, ◌++◌, length, map, refl, sym, ap, subst, ◌∙◌, inl, inr}
use Rattle.std.proofs.Common.{arith}
use Rattle.std.specs.Prelude.{◌⊎◌, ◌≢◌, pos, ◌≤ℤ◌, nat_abs}
use Rattle.std.specs.List.{All, AllPairs, flat_map}
use Rattle.std.proofs.lemmas.Int.{ints}
use Rattle.std.proofs.lemmas.List.{length-map, map-append}
use Rattle.std.proofs.lemmas.List.Elements.{All-nil, All-cons}
use Rattle.std.proofs.lemmas.List.Kept.{AllPairs-cons}
use Rattle.sp_base.specs.declared.id.NodeId.{NodeId}
use Rattle.sp_topology.specs.declared.topology.Edge.{Edge}
use Rattle.sp_graph.specs.declared.graph.Graph.{Graph}
use Rattle.sp_graph.specs.declared.part.Part.TheVariants as parts
use Rattle.sp_graph.specs.Certificates.{IsOptimal, reduced_cost, residual, turned, uses}
use Rattle.sp_graph.specs.Disjoint.{Apart, Disjoint}
use Rattle.sp_graph.specs.Edges.{IsEdge, IsGraph}
use Rattle.sp_graph.specs.Split.{Arc, arcs_of, edge_arcs, node_arc, nodes_to}
use Rattle.sp_graph.specs.Walks.{IsPath}
use Rattle.laws_paths.proofs.Duality.{used_is_way, way_is_used}
use Rattle.laws_paths.proofs.Kept.{all_arcs}
use Rattle.laws_paths.proofs.Lists.{Distinct, Has, contains, distinct, has, has_either, has_left, has_map, has_right, held}
use Rattle.laws_paths.proofs.Sets.{together}
use Rattle.laws_paths.proofs.Ways.{Way, is_out, ways_are, ways_of}
use Rattle.sp_paths.specs.declared.lane.Lane.{Lane}
use Rattle.sp_paths.specs.Flows.{Flow}
use Rattle.sp_paths.specs.Lanes.{FitAll, Fits, at, flipped, lane_at}
use Rattle.sp_paths.specs.Parts.{arc_of, is_there, number, part_at}
use Rattle.sp_paths.specs.Taken.{IsApart, Leads, joined}
use Rattle.sp_paths.specs.Visits.{path_along, way_of, ways_along}
use Rattle.sp_paths.proofs.ArcsOnce.{has_arc, place_once}
use Rattle.sp_paths.proofs.FlowLemmas.{none_left}
use Rattle.sp_paths.proofs.PathLemmas.{Laid, all_from, distinct_across, distinct_left, distinct_right, lay, path_is, paths_apart}
use Rattle.sp_paths.proofs.Places.{in_or_not, walk_in_joined}
use Rattle.sp_paths.proofs.Shapes.{from_filter, from_map, number_at}

-- ---- the paths of many walks

module _ (g : Graph) (s t : NodeId) (apart_ends : s ≢ t) (lanes : List Lane) where
  ways_here : (walk : List ℕ) → Laid g s t lanes walk → ways_of (path_along lanes s walk) ≡ ways_along lanes walk
  ways_here walk l = ap ways_of l.path ∙ ways_are s l.inner t ∙ sym l.ways_here

  along_both : (one two : List ℕ) → ways_along lanes (one ++ two) ≡ ways_along lanes one ++ ways_along lanes two
  along_both one two = map-append (λ i. way_of (lane_at lanes i)) one two

  pub together_is : (walks : List (List ℕ)) → ((walk : List ℕ) → Has walks walk → Laid g s t lanes walk)
      → together (map (λ walk. path_along lanes s walk) walks) ≡ ways_along lanes (joined walks)
  together_is [] laid = refl
  together_is (w ∷ walks) laid =
      ap (λ (ws : List Way). ws ++ together (map (λ walk. path_along lanes s walk) walks)) (ways_here w (laid w (inl refl)))
      ∙ ap (λ (ws : List Way). ways_along lanes w ++ ws) (together_is walks (λ v h. laid v (inr h))) ∙ sym (along_both w (joined walks))

  in_joined : (walks : List (List ℕ)) (walk : List ℕ) (w : Way) → Has walks walk → Has (ways_along lanes walk) w → Has (ways_along lanes (joined walks)) w
  in_joined [] walk w h k = absurd h
  in_joined (v ∷ walks) walk w (inl e) k =
      subst (λ (ws : List Way). Has ws w) (sym (along_both v (joined walks)))
      (has_left (ways_along lanes v) (ways_along lanes (joined walks)) w (subst (λ (u : List ℕ). Has (ways_along lanes u) w) (sym e) k))
  in_joined (v ∷ walks) walk w (inr h) k =
      subst (λ (ws : List Way). Has ws w) (sym (along_both v (joined walks)))
      (has_right (ways_along lanes v) (ways_along lanes (joined walks)) w (in_joined walks walk w h k))

  are_paths : (walks : List (List ℕ)) → ((walk : List ℕ) → Has walks walk → Laid g s t lanes walk) → Distinct (ways_along lanes (joined walks))
      → All (IsPath g s t) (map (λ walk. path_along lanes s walk) walks)
  are_paths [] laid once = All-nil (IsPath g s t)
  are_paths (w ∷ walks) laid once =
      let split = subst Distinct (along_both w (joined walks)) once in
      All-cons (IsPath g s t) (path_along lanes s w) (map (λ walk. path_along lanes s walk) walks)
      (path_is g s t apart_ends lanes w (laid w (inl refl)) (distinct_left (ways_along lanes w) (ways_along lanes (joined walks)) split))
      (are_paths walks (λ v h. laid v (inr h)) (distinct_right (ways_along lanes w) (ways_along lanes (joined walks)) split))

  are_apart : (walks : List (List ℕ)) → ((walk : List ℕ) → Has walks walk → Laid g s t lanes walk) → Distinct (ways_along lanes (joined walks))
      → AllPairs (Apart s t) (map (λ walk. path_along lanes s walk) walks)
  are_apart [] laid once = λ i j d less inside. absurd (omega (arith, inside))
  are_apart (w ∷ walks) laid once =
      let split = subst Distinct (along_both w (joined walks)) once in
      let path : List ℕ → List NodeId = λ walk. path_along lanes s walk in
      AllPairs-cons (Apart s t) (path_along lanes s w) (map (λ walk. path_along lanes s walk) walks)
      (all_from (Apart s t (path_along lanes s w)) (map (λ walk. path_along lanes s walk) walks) (λ p h.
      let (v, at, e) = from_map path walks p h in
      subst (Apart s t (path_along lanes s w)) e (paths_apart g s t apart_ends lanes w v (laid w (inl refl)) (laid v (inr at))
      (λ x a b. distinct_across (ways_along lanes w) (ways_along lanes (joined walks)) split x a (in_joined walks v x at b)))))
      (are_apart walks (λ v h. laid v (inr h)) (distinct_right (ways_along lanes w) (ways_along lanes (joined walks)) split))

  pub are_disjoint : (k : ℕ) (walks : List (List ℕ)) → length walks ≡ k → ((walk : List ℕ) → Has walks walk → Laid g s t lanes walk)
      → Distinct (ways_along lanes (joined walks))
      → Disjoint g s t k (map (λ walk. path_along lanes s walk) walks)
  are_disjoint k walks count laid once =
      record { count = length-map walks (λ walk. path_along lanes s walk) ∙ count; are_paths = are_paths walks laid once; apart = are_apart walks laid once }

-- ---- which lanes are taken

distinct_along : {Y : Type 0} (f : ℕ → Y) (xs : List ℕ) → ((i j : ℕ) → Has xs i → Has xs j → f i ≡ f j → i ≡ j) → Distinct xs → Distinct (map f xs)
distinct_along f [] one once = tt
distinct_along f (x ∷ xs) one once = (
  (λ h. let (y, at, e) = from_map f xs (f x) h in once.0 (subst (Has xs) (one y x (inr at) (inl refl) e) at)),
  distinct_along f xs (λ i j h k. one i j (inr h) (inr k)) once.1,
)

-- an arc goes through a node, or costs 1 at least
edge_weight : (nodes : ℕ) (edges : List Edge) (a : Arc) → All (IsEdge nodes) edges → Has (flat_map edge_arcs edges) a
    → (weight : ℕ) × (1 ≤ weight) × (a.cost ≡ pos weight)
edge_weight nodes edges a good h = from edges good h
  where
    from : (es : List Edge) → All (IsEdge nodes) es → Has (flat_map edge_arcs es) a → (weight : ℕ) × (1 ≤ weight) × (a.cost ≡ pos weight)
    from [] all k = absurd k
    from (e ∷ es) all (inl f) = (e.weight, (held (IsEdge nodes) (e ∷ es) e all (inl refl)).3.0, ap (λ (b : Arc). b.cost) (sym f))
    from (e ∷ es) all (inr (inl f)) = (e.weight, (held (IsEdge nodes) (e ∷ es) e all (inl refl)).3.0, ap (λ (b : Arc). b.cost) (sym f))
    from (e ∷ es) all (inr (inr k)) = from es (all_from (IsEdge nodes) es (λ f m. held (IsEdge nodes) (e ∷ es) f all (inr m))) k

arc_weight : (g : Graph) (s t : NodeId) (a : Arc) → IsGraph g → Has (arcs_of g s t) a
    → ((is_out a.from ≡ false) × (is_out a.to ≡ true)) ⊎ ((weight : ℕ) × (1 ≤ weight) × (a.cost ≡ pos weight))
arc_weight g s t a good h = go (has_either (map node_arc (nodes_to g.nodes)) (flat_map edge_arcs g.edges) a (from_filter (is_there s t) (all_arcs g) a h).0)
  where
    go : Has (map node_arc (nodes_to g.nodes)) a ⊎ Has (flat_map edge_arcs g.edges) a
        → ((is_out a.from ≡ false) × (is_out a.to ≡ true)) ⊎ ((weight : ℕ) × (1 ≤ weight) × (a.cost ≡ pos weight))
    go (inl k) = let (v, at, e) = from_map node_arc (nodes_to g.nodes) a k in
        inl (ap (λ (b : Arc). is_out b.from) (sym e), ap (λ (b : Arc). is_out b.to) (sym e))
    go (inr k) = inr (edge_weight g.nodes g.edges a good.edges k)

-- twice the potential, and one more for an out-part: it rises along each used lane
rank : (ℕ → ℕ) → ℕ → ℕ
rank p v = 2 * p v + cond (is_out (part_at v)) 1 0

bit_small : (b : Bool) → cond b 1 0 ≤ 1
bit_small true = omega arith
bit_small false = omega arith

rank_rises : (g : Graph) (s t : NodeId) (p : ℕ → ℕ) (l : Lane) → IsGraph g → Has (arcs_of g s t) (arc_of l) → l.cost + p l.from ≤ p l.to
    → rank p l.from < rank p l.to
unfolding rank
rank_rises g s t p l good h fits = go (arc_weight g s t (arc_of l) good h)
  where
    go : ((is_out (part_at l.from) ≡ false) × (is_out (part_at l.to) ≡ true)) ⊎ ((weight : ℕ) × (1 ≤ weight) × (pos l.cost ≡ pos weight))
        → 2 * p l.from + cond (is_out (part_at l.from)) 1 0 < 2 * p l.to + cond (is_out (part_at l.to)) 1 0
    go (inl e) = rw (e.0, e.1) (omega (arith, fits))
    go (inr (weight, some, e)) =
        let cost : l.cost ≡ weight = ap nat_abs e in
        omega (arith, some, cost, fits, bit_small (is_out (part_at l.from)))

used_fits : (p : ℕ → ℕ) (l : Lane) → Fits p l → l.used ≡ true → l.cost + p l.from ≤ p l.to
used_fits p l fits used = rw used at fits

free_fits : (p : ℕ → ℕ) (l : Lane) → Fits p l → l.used ≡ false → p l.to ≤ l.cost + p l.from
free_fits p l fits used = rw used at fits

module _ (g : Graph) (s t : NodeId) (apart_ends : s ≢ t) (right : IsGraph g) (old new : List Lane) (is : map arc_of old ≡ arcs_of g s t) (k : ℕ)
    (walks : List (List ℕ))
    (taken : IsApart old new (number (parts.Out s)) (number (parts.In t)) k walks) where
  inside : (i : ℕ) → Has (joined walks) i → i < length old
  inside i h = taken.taken.inside i (contains (joined walks) i h)

  laid : (walk : List ℕ) → Has walks walk → Laid g s t old walk
  laid walk h =
      lay g s t old is walk (λ i at. inside i (walk_in_joined walks walk i h at))
      (held (λ w. Leads old (number (parts.Out s)) w (number (parts.In t))) walks walk taken.lead h)

  ways_once : Distinct (ways_along old (joined walks))
  ways_once = distinct_along (λ i. way_of (lane_at old i)) (joined walks) (λ i j h m e. place_once g s t old right is i j (inside i h) (inside j m) e)
      (distinct (joined walks) taken.taken.once)

  pub walks_are_disjoint : Disjoint g s t k (map (λ walk. path_along old s walk) walks)
  walks_are_disjoint = are_disjoint g s t apart_ends old k walks taken.count laid ways_once

  -- a lane that is still used was used, and isn't taken
  still_used : (i : ℕ) → (lane_at new i).used ≡ true → lane_at new i ≡ lane_at old i
  still_used i used = go (in_or_not (joined walks) i)
    where
      go : Has (joined walks) i ⊎ (Has (joined walks) i → ⊥) → lane_at new i ≡ lane_at old i
      go (inl h) =
          let c = contains (joined walks) i h in
          let free : (flipped (lane_at old i)).used ≡ false = rw (taken.taken.used i c) refl in
          let x : true ≡ false = sym used ∙ ap (λ (l : Lane). l.used) (taken.taken.free i c) ∙ free in absurd cc
      go (inr out) = taken.taken.others i (λ c. out (has (joined walks) i c))

  -- where potentials fit and no flow is left
  module _ (p : ℕ → ℕ) (fits : FitAll p old) (none : Flow (number (parts.Out s)) (number (parts.In t)) 0 new) where
    nothing_left : (i : ℕ) → i < length new → (lane_at new i).used ≡ false
    nothing_left = none_left (number (parts.Out s)) (number (parts.In t)) new (rank p)
        (λ i less used.
        let same = still_used i used in
        let there : i < length old = omega (arith, less, taken.taken.long) in
        let up = rank_rises g s t p (lane_at old i) right (has_arc old (arcs_of g s t) is i there)
        (used_fits p (lane_at old i) (fits i there) (ap (λ (l : Lane). l.used) (sym same) ∙ used)) in
        subst (λ (l : Lane). rank p l.from < rank p l.to) (sym same) up)
        none

    -- each lane that was used is taken
    used_is_taken : (i : ℕ) → i < length old → (lane_at old i).used ≡ true → Has (joined walks) i
    used_is_taken i less used = go (in_or_not (joined walks) i)
      where
        go : Has (joined walks) i ⊎ (Has (joined walks) i → ⊥) → Has (joined walks) i
        go (inl h) = h
        go (inr out) =
            let same = taken.taken.others i (λ c. out (has (joined walks) i c)) in
            let x : true ≡ false = sym used ∙ ap (λ (l : Lane). l.used) (sym same) ∙ nothing_left i (omega (arith, less, taken.taken.long)) in absurd cc

    all_ways : together (map (λ walk. path_along old s walk) walks) ≡ ways_along old (joined walks)
    all_ways = together_is g s t apart_ends old walks laid

    -- the paths use an arc exactly where its lane is used
    uses_used : (i : ℕ) → i < length old → uses (map (λ walk. path_along old s walk) walks) (arc_of (lane_at old i)) ≡ (lane_at old i).used
    uses_used i less = go (lane_at old i).used refl (uses (map (λ walk. path_along old s walk) walks) (arc_of (lane_at old i))) refl
      where
        go : (a : Bool) → (lane_at old i).used ≡ a → (b : Bool) → uses (map (λ walk. path_along old s walk) walks) (arc_of (lane_at old i)) ≡ b
            → uses (map (λ walk. path_along old s walk) walks) (arc_of (lane_at old i)) ≡ (lane_at old i).used
        go true e b f =
            let at = has_map (λ j. way_of (lane_at old j)) (joined walks) i (used_is_taken i less e) in
            way_is_used g (map (λ walk. path_along old s walk) walks) (way_of (lane_at old i))
            (subst (λ (ws : List Way). Has ws (way_of (lane_at old i))) (sym all_ways) at) ∙ sym e
        go false e false f = f ∙ sym e
        go false e true f =
            let way = used_is_way g (map (λ walk. path_along old s walk) walks) (way_of (lane_at old i)) f in
            let (j, at, same) =
            from_map (λ j. way_of (lane_at old j)) (joined walks) (way_of (lane_at old i))
            (subst (λ (ws : List Way). Has ws (way_of (lane_at old i))) all_ways way) in
            let one : j ≡ i = place_once g s t old right is j i (inside j at) less same in
            let used : (lane_at old i).used ≡ true = taken.taken.used i (contains (joined walks) i (subst (Has (joined walks)) one at)) in
            let x : true ≡ false = sym used ∙ e in absurd cc

    -- each residual arc has a reduced cost of at least 0
    fits_arc : (i : ℕ) → i < length old → (b : Bool) → (lane_at old i).used ≡ b
        → pos 0 ≤ℤ reduced_cost (λ q. pos (p (number q))) (cond b (turned (arc_of (lane_at old i))) (arc_of (lane_at old i)))
    fits_arc i less true e =
        let l = lane_at old i in
        let from : p (number (part_at l.from)) ≡ p l.from = ap p (number_at l.from) in
        let to : p (number (part_at l.to)) ≡ p l.to = ap p (number_at l.to) in
        omega (arith, ints, used_fits p l (fits i less) e, from, to)
    fits_arc i less false e =
        let l = lane_at old i in
        let from : p (number (part_at l.from)) ≡ p l.from = ap p (number_at l.from) in
        let to : p (number (part_at l.to)) ≡ p l.to = ap p (number_at l.to) in
        omega (arith, ints, free_fits p l (fits i less) e, from, to)

    place_of : (lanes : List Lane) (l : Lane) → Has lanes l → (i : ℕ) × (i < length lanes) × (lane_at lanes i ≡ l)
    place_of [] l h = absurd h
    place_of (m ∷ lanes) l (inl e) = (0, omega arith, e)
    place_of (m ∷ lanes) l (inr h) = let (i, less, e) = place_of lanes l h in (suc i, omega (arith, less), e)

    pub walks_are_optimal : IsOptimal g s t (map (λ walk. path_along old s walk) walks) (λ q. pos (p (number q)))
    walks_are_optimal = all_from (λ a. pos 0 ≤ℤ reduced_cost (λ q. pos (p (number q))) a) (residual g s t (map (λ walk. path_along old s walk) walks)) (λ x h.
        let in_residual : Arc → Arc = λ b. cond (uses (map (λ walk. path_along old s walk) walks) b) (turned b) b in
        let (a, at, e) = from_map in_residual (arcs_of g s t) x h in
        let (l, there, f) = from_map arc_of old a (subst (λ (arcs : List Arc). Has arcs a) (sym is) at) in
        let (i, less, place) = place_of old l there in
        let fit = fits_arc i less (uses (map (λ walk. path_along old s walk) walks) (arc_of (lane_at old i))) (sym (uses_used i less)) in
        subst (λ b. pos 0 ≤ℤ reduced_cost (λ q. pos (p (number q))) b) e
        (subst (λ b. pos 0 ≤ℤ reduced_cost (λ q. pos (p (number q))) (in_residual b)) (ap arc_of place ∙ f) fit))
