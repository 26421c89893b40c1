-- From what the lanes of a search say to what its answer says of the graph.
use Rattle.std.proofs.Common.{◌≡◌, ◌+◌, ◌<◌, ℕ, zero, suc, Bool, true, false, not, cond, List, [], ◌∷◌, length, map, sum_by, refl, sym, ap, subst, ◌∙◌, inl}
use Rattle.std.proofs.Common.{inr, arith}
use Rattle.std.specs.Prelude.{◌⊎◌, ◌≢◌, ◌&&◌, ◌==◌, pos, replicate}
use Rattle.std.specs.List.{All, Contains, list_all}
use Rattle.std.proofs.lemmas.Bool.{eqb-true}
use Rattle.sp_base.specs.declared.id.NodeId.{NodeId}
use Rattle.sp_graph.specs.declared.graph.Graph.{Graph}
use Rattle.sp_graph.specs.declared.part.Part.{Part}
use Rattle.sp_graph.specs.declared.part.Part.TheVariants as parts
use Rattle.sp_graph.specs.Cuts.{IsCut, leaving}
use Rattle.sp_graph.specs.Edges.{IsGraph}
use Rattle.sp_graph.specs.Split.{Arc, arcs_of}
use Rattle.laws_paths.proofs.Crossings.{cut_bounds_paths}
use Rattle.laws_paths.proofs.Duality.{certified_is_least}
use Rattle.laws_paths.proofs.Kept.{both_true}
use Rattle.laws_paths.proofs.Ways.{Way}
use Rattle.laws_paths.proofs.Lists.{Has, contains, has, has_map, total, total_is, total_map}
use Rattle.sp_paths.specs.declared.lane.Lane.{Lane}
use Rattle.sp_paths.specs.declared.limits.TheConstants.{PARTS}
use Rattle.sp_paths.specs.Crossings.{leaves}
use Rattle.sp_paths.specs.Flows.{Flow, bare}
use Rattle.sp_paths.specs.Lanes.{Fits, at, is_in, lane_at, no_lane}
use Rattle.sp_paths.specs.Parts.{IsFresh, arc_of, number, part_at}
use Rattle.sp_paths.specs.Routes.{HasAll, HasOnly, IsUnused}
use Rattle.sp_paths.specs.Searched.{IsFew, IsFound}
use Rattle.sp_paths.specs.Taken.{IsApart, Taken, joined}
use Rattle.sp_paths.specs.Trees.{IsReady}
use Rattle.sp_paths.specs.Visits.{path_along, visits, way_of, ways_along}
use Rattle.sp_paths.proofs.FlowLemmas.{closed_size, least_cut, open_size}
use Rattle.sp_paths.proofs.OrderLemmas.{walks_in_order}
use Rattle.sp_paths.proofs.PartedFlows.{Parted, parted}
use Rattle.sp_paths.proofs.PathLemmas.{all_from}
use Rattle.sp_paths.proofs.Sets.{walks_are_disjoint, walks_are_optimal}
use Rattle.sp_paths.proofs.Places.{in_or_not, walk_in_joined}
use Rattle.sp_paths.proofs.Shapes.{number_at, part_of_number}

-- ---- the beginning

fresh_fits : (p : ℕ → ℕ) (l : Lane) → IsFresh l → p l.to ≡ 0 → Fits p l
fresh_fits p l fresh none = rw fresh.unused (omega (arith, none))

pub fresh_unused : (lanes : List Lane) → All IsFresh lanes → IsUnused lanes
fresh_unused lanes fresh k inside = (fresh k no_lane inside).unused

pub fresh_ready : (s : ℕ) (lanes : List Lane) (potential : List ℕ) → All IsFresh lanes → length potential ≡ PARTS → ((v : ℕ) → at potential v ≡ 0) → s < PARTS
    → IsReady s lanes potential
fresh_ready s lanes potential fresh long zero_all inside = record {
  parts = omega (arith, long);
  source = omega (arith, long, inside);
  within = λ k less. (omega (arith, long, (fresh k no_lane less).from), omega (arith, long, (fresh k no_lane less).to));
  weights = λ k less. (fresh k no_lane less).weight;
  fits = λ k less. fresh_fits (at potential) (lane_at lanes k) (fresh k no_lane less) (zero_all (lane_at lanes k).to);
  zero_there = zero_all s;
  low = λ v. omega (arith, zero_all v);
}

-- ---- marks don't change arcs

arc_of_bare : (lanes : List Lane) → map arc_of (map bare lanes) ≡ map arc_of lanes
arc_of_bare [] = refl
arc_of_bare (l ∷ lanes) = ap (λ (arcs : List Arc). arc_of l ∷ arcs) (arc_of_bare lanes)

pub same_arcs : (old new : List Lane) → map bare new ≡ map bare old → map arc_of new ≡ map arc_of old
same_arcs old new same = sym (arc_of_bare new) ∙ ap (map arc_of) same ∙ arc_of_bare old

-- ---- the cut

-- the arcs that leave a set are the lanes that do
leaving_is : (g : Graph) (s t : NodeId) (lanes : List Lane) (cut : Part → Bool) → map arc_of lanes ≡ arcs_of g s t
    → leaving g s t cut ≡ sum_by (leaves (λ n. cut (part_at n))) lanes
leaving_is g s t lanes cut is =
    let f : Arc → ℕ = λ a. cond (cut a.from && not (cut a.to)) 1 0 in
    let h : Lane → ℕ = leaves (λ n. cut (part_at n)) in
    total_is f (arcs_of g s t) ∙ ap (total f) (sym is) ∙ total_map f arc_of lanes ∙ sym (total_is h lanes)

leaves_same : (c : ℕ → Bool) (lanes : List Lane) → sum_by (leaves (λ n. c (number (part_at n)))) lanes ≡ sum_by (leaves c) lanes
leaves_same c lanes =
    let one : Lane → ℕ = leaves (λ n. c (number (part_at n))) in
    let two : Lane → ℕ = leaves c in
    total_is one lanes ∙ each lanes ∙ sym (total_is two lanes)
  where
    each : (ls : List Lane) → total (leaves (λ n. c (number (part_at n)))) ls ≡ total (leaves c) ls
    each [] = refl
    each (l ∷ ls) =
        let from : c (number (part_at l.from)) ≡ c l.from = ap c (number_at l.from) in
        let to : c (number (part_at l.to)) ≡ c l.to = ap c (number_at l.to) in
        rw (from, to) (ap (λ (n : ℕ). cond (c l.from && not (c l.to)) 1 0 + n) (each ls))

pub few_is : (g : Graph) (s t : NodeId) (k found : ℕ) (lanes : List Lane) (reached : List Bool) → s ≢ t → IsGraph g → map arc_of lanes ≡ arcs_of g s t
    → HasOnly (number (parts.Out s)) (number (parts.In t)) found k lanes reached → length reached ≡ PARTS → IsFew g s t k found reached
few_is g s t k found lanes reached apart right is only marks = record {
  marks = marks;
  fewer = only.fewer;
  paths = map (λ walk. path_along lanes s walk) flow.walks;
  disjoint = walks_are_disjoint g s t apart right lanes flow.new is found flow.walks flow.apart;
  no_more = λ n paths good. omega (arith, cut_bounds_paths g s t n paths (λ part. is_in reached (number part)) right good cut, whole);
  is_cut = cut;
  size = whole;
  least = λ other good. omega (
    arith,
    leaving_is g s t lanes other is,
    open_size (number (parts.Out s)) (number (parts.In t)) found lanes (λ n. other (part_at n)) only.flow (source other good) (destination other good),
  );
  smallest = λ other good small part inside there.
      let closed =
      least_cut (number (parts.Out s)) (number (parts.In t)) found lanes (λ n. other (part_at n)) only.flow (source other good) (destination other good)
      (omega (arith, small, leaving_is g s t lanes other is)) in
      ap other (sym (part_of_number part)) ∙ only.least_set (λ n. other (part_at n)) (source other good) closed (number part) inside there;
}
  where
    flow : Parted lanes (number (parts.Out s)) (number (parts.In t)) found
    flow = parted (number (parts.Out s)) (number (parts.In t)) found lanes only.flow

    cut : IsCut s t (λ part. is_in reached (number part))
    cut = record { source = only.source; destination = only.destination }

    source : (other : Part → Bool) → IsCut s t other → other (part_at (number (parts.Out s))) ≡ true
    source other good = ap other (part_of_number (parts.Out s)) ∙ good.source

    destination : (other : Part → Bool) → IsCut s t other → other (part_at (number (parts.In t))) ≡ false
    destination other good = ap other (part_of_number (parts.In t)) ∙ good.destination

    whole : leaving g s t (λ part. is_in reached (number part)) ≡ found
    whole =
        leaving_is g s t lanes (λ part. is_in reached (number part)) is ∙ leaves_same (is_in reached) lanes
        ∙ closed_size (number (parts.Out s)) (number (parts.In t)) found lanes (is_in reached) only.flow only.source only.destination only.closed

-- ---- the paths

pub found_is : (g : Graph) (s t : NodeId) (k : ℕ) (old new : List Lane) (potential : List ℕ) (walks : List (List ℕ)) (paths : List (List NodeId)) → s ≢ t
    → IsGraph g → map arc_of old ≡ arcs_of g s t
    → HasAll (number (parts.Out s)) (number (parts.In t)) k old potential → IsApart old new (number (parts.Out s)) (number (parts.In t)) k walks
    → Flow (number (parts.Out s)) (number (parts.In t)) 0 new
    → paths ≡ map (λ walk. path_along old s walk) walks → length potential ≡ PARTS → IsFound g s t k paths potential
found_is g s t k old new potential walks paths apart right is all taken none these numbers =
    let set = map (λ walk. path_along old s walk) walks in
    let disjoint = walks_are_disjoint g s t apart right old new is k walks taken in
    let optimal = walks_are_optimal g s t apart right old new is k walks taken (at potential) all.fits none in
    let found : IsFound g s t k set potential =
    record {
      disjoint = disjoint;
      ordered = walks_in_order g s t right old new is k walks taken;
      optimal = optimal;
      least =
          certified_is_least g s t k set (λ part. pos (at potential (number part))) right disjoint optimal;
      low = all.low;
      numbers = numbers;
    } in
    subst (λ (ps : List (List NodeId)). IsFound g s t k ps potential) (sym these) found

-- ---- what the functions hand on

pub zeros_read : (xs : List ℕ) → list_all (λ x. x == 0) xs ≡ true → (v : ℕ) → at xs v ≡ 0
zeros_read [] e v = refl
zeros_read (x ∷ xs) e zero = eqb-true _ _ (both_true (x == 0) (list_all (λ y. y == 0) xs) e).0
zeros_read (x ∷ xs) e (suc v) = zeros_read xs (both_true (x == 0) (list_all (λ y. y == 0) xs) e).1 v

abbrev pub zeros : List ℕ
zeros = replicate PARTS 0

pub places_inside : {X : Type 0} (f : X → List ℕ) (walks : List X) (n : ℕ) → ((i : ℕ) → Contains (joined (map f walks)) i → i < n)
    → All (λ walk. All (λ i. i < n) (f walk)) walks
places_inside f walks n inside =
    all_from (λ walk. All (λ i. i < n) (f walk)) walks
    (λ walk h. all_from (λ i. i < n) (f walk)
    (λ i at. inside i (contains (joined (map f walks)) i (walk_in_joined (map f walks) (f walk) i (has_map f walks walk h) at))))

-- a lane that was taken has the ends that it had
way_same : (old new : List Lane) (places : List ℕ) → Taken old new places → (i : ℕ) → way_of (lane_at new i) ≡ way_of (lane_at old i)
way_same old new places taken i = go (in_or_not places i)
  where
    go : Has places i ⊎ (Has places i → ⊥) → way_of (lane_at new i) ≡ way_of (lane_at old i)
    go (inl h) = ap way_of (taken.free i (contains places i h))
    go (inr out) = ap way_of (taken.others i (λ c. out (has places i c)))

along_same : (old new : List Lane) (walk : List ℕ) → ((i : ℕ) → way_of (lane_at new i) ≡ way_of (lane_at old i)) → ways_along new walk ≡ ways_along old walk
along_same old new [] same = refl
along_same old new (i ∷ walk) same =
    ap (λ (w : Way). w ∷ ways_along new walk) (same i) ∙ ap (λ (ws : List Way). way_of (lane_at old i) ∷ ws) (along_same old new walk same)

pub paths_same : {X : Type 0} (f : X → List ℕ) (walks : List X) (old new : List Lane) (s : NodeId) (places : List ℕ) → Taken old new places
    → map (λ walk. path_along new s (f walk)) walks ≡ map (λ walk. path_along old s walk) (map f walks)
paths_same f [] old new s places taken = refl
paths_same f (w ∷ walks) old new s places taken =
    let path : List ℕ → List NodeId = λ walk. path_along old s walk in
    ap (λ (ws : List Way). (s ∷ visits ws) ∷ map (λ walk. path_along new s (f walk)) walks) (along_same old new (f w) (way_same old new places taken))
    ∙ ap (λ (ps : List (List NodeId)). path (f w) ∷ ps) (paths_same f walks old new s places taken)
