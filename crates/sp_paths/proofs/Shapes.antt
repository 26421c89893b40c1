-- A walk along lanes of a graph is a path: out of a node, into the next one, through it, and on.
use Rattle.std.proofs.Common.{◌≡◌, ◌+◌, ◌*◌, ◌/◌, ◌%◌, ◌<◌, ℕ, Bool, true, false, cond, List, [], ◌∷◌, length, map, refl, sym, ap, subst, ◌∙◌, inl, inr, arith}
use Rattle.std.specs.Prelude.{◌⊎◌, ◌≢◌, ◌&&◌, ◌||◌, ◌==◌, not}
use Rattle.std.specs.List.{filter, flat_map}
use Rattle.std.proofs.lemmas.Bool.{eqb-true}
use Rattle.std.proofs.lemmas.Bool.Decides.{nat_tests}
use Rattle.sp_base.specs.declared.id.NodeId.{NodeId}
use Rattle.sp_topology.specs.declared.topology.Edge.{Edge}
use Rattle.sp_graph.specs.declared.graph.Graph.{Graph}
use Rattle.sp_graph.specs.declared.part.Part.{Part}
use Rattle.sp_graph.specs.declared.part.Part.TheVariants as parts
use Rattle.sp_graph.specs.Split.{Arc, arcs_of, edge_arc, edge_arcs, is_same, node_arc, nodes_to, stays}
use Rattle.sp_graph.specs.Walks.{is_between}
use Rattle.laws_paths.proofs.Kept.{Between, all_arcs, both_true, same_node, same_number}
use Rattle.laws_paths.proofs.Lists.{Has, has_either}
use Rattle.laws_paths.proofs.Ways.{Way, is_out, node_of, ways}
use Rattle.sp_paths.specs.declared.lane.Lane.{Lane}
use Rattle.sp_paths.specs.Lanes.{lane_at}
use Rattle.sp_paths.specs.Parts.{arc_of, is_there, number, part_at}
use Rattle.sp_paths.specs.Taken.{Leads}
use Rattle.sp_paths.specs.Visits.{way_of, ways_along}

-- ---- arcs

pub from_filter : {X : Type 0} (test : X → Bool) (xs : List X) (a : X) → Has (filter test xs) a → Has xs a × (test a ≡ true)
from_filter test [] a h = absurd h
from_filter {X} test (x ∷ xs) a h = go (test x) refl h (from_filter test xs a)
  where
    go : (b : Bool) → test x ≡ b → Has (cond b (x ∷ filter test xs) (filter test xs)) a → (Has (filter test xs) a → Has xs a × (test a ≡ true))
        → Has (x ∷ xs) a × (test a ≡ true)
    go true e (inl f) rest = (inl f, ap test (sym f) ∙ e)
    go true e (inr k) rest = let at = rest k in (inr at.0, at.1)
    go false e k rest = let at = rest k in (inr at.0, at.1)

pub from_map : {X Y : Type 0} (f : X → Y) (xs : List X) (y : Y) → Has (map f xs) y → (x : X) × Has xs x × (f x ≡ y)
from_map f [] y h = absurd h
from_map f (x ∷ xs) y (inl e) = (x, inl refl, e)
from_map f (x ∷ xs) y (inr h) = let at = from_map f xs y h in (at.0, inr at.1, at.2)

between_itself : (e : Edge) → is_between e.low e.high e ≡ true
between_itself e = let one = same_number e.low.0 in let two = same_number e.high.0 in rw (one, two) refl

between_back : (e : Edge) → is_between e.high e.low e ≡ true
between_back e = go ((e.low.0 == e.high.0) && (e.high.0 == e.low.0))
  where
    go : (b : Bool) → (b || ((e.low.0 == e.low.0) && (e.high.0 == e.high.0))) ≡ true
    go true = refl
    go false = let one = same_number e.low.0 in let two = same_number e.high.0 in rw (one, two) refl

-- an arc goes through a node that is no end, or along an edge
pub data ArcKind (g : Graph) (s t : NodeId) (a : Arc) : Type 0 where
  Inner : (v : NodeId) → v ≢ s → v ≢ t → a ≡ node_arc v → ArcKind g s t a
  Edge_arc : (u v : NodeId) (weight : ℕ) → u ≢ t → v ≢ s → Between g.edges u v → a ≡ edge_arc u v weight → ArcKind g s t a

pub from_edges : (edges : List Edge) (a : Arc) → Has (flat_map edge_arcs edges) a
    → (u : NodeId) × (v : NodeId) × (weight : ℕ) × Between edges u v × (a ≡ edge_arc u v weight)
from_edges [] a h = absurd h
from_edges (e ∷ edges) a (inl f) = (e.low, e.high, e.weight, (e, inl refl, between_itself e), sym f)
from_edges (e ∷ edges) a (inr (inl f)) = (e.high, e.low, e.weight, (e, inl refl, between_back e), sym f)
from_edges (e ∷ edges) a (inr (inr h)) = let (u, v, weight, at, is) = from_edges edges a h in (u, v, weight, (at.0, inr at.1, at.2), is)

not_true : (b : Bool) → not b ≡ true → b ≡ false
not_true true e = absurd cc
not_true false e = refl

-- a part that is there is neither of the two left out
in_there : (s t v : NodeId) → stays s t (parts.In v) ≡ true → v ≢ s
in_there s t v e same =
    let k = both_true (not (is_same (parts.In v) (parts.In s))) (not (is_same (parts.In v) (parts.Out t))) e in
    let yes_it_is : (v.0 == s.0) ≡ true = ap (λ (x : NodeId). v.0 == x.0) (sym same) ∙ same_number v.0 in
    let x : true ≡ false = sym yes_it_is ∙ not_true (v.0 == s.0) k.0 in absurd cc

out_there : (s t v : NodeId) → stays s t (parts.Out v) ≡ true → v ≢ t
out_there s t v e same =
    let k = both_true (not (is_same (parts.Out v) (parts.In s))) (not (is_same (parts.Out v) (parts.Out t))) e in
    let yes_it_is : (v.0 == t.0) ≡ true = ap (λ (x : NodeId). v.0 == x.0) (sym same) ∙ same_number v.0 in
    let x : true ≡ false = sym yes_it_is ∙ not_true (v.0 == t.0) k.1 in absurd cc

pub arc_kind : (g : Graph) (s t : NodeId) (a : Arc) → Has (arcs_of g s t) a → ArcKind g s t a
arc_kind g s t a h = go (has_either (map node_arc (nodes_to g.nodes)) (flat_map edge_arcs g.edges) a at.0)
  where
    at : Has (all_arcs g) a × (is_there s t a ≡ true)
    at = from_filter (is_there s t) (all_arcs g) a h

    there : (stays s t a.from ≡ true) × (stays s t a.to ≡ true)
    there = both_true (stays s t a.from) (stays s t a.to) at.1

    go : Has (map node_arc (nodes_to g.nodes)) a ⊎ Has (flat_map edge_arcs g.edges) a → ArcKind g s t a
    go (inl k) =
        let (v, place, is) = from_map node_arc (nodes_to g.nodes) a k in
        Inner v (in_there s t v (ap (λ (b : Arc). stays s t b.from) is ∙ there.0)) (out_there s t v (ap (λ (b : Arc). stays s t b.to) is ∙ there.1)) (sym is)
    go (inr k) =
        let (u, v, weight, edge, is) = from_edges g.edges a k in
        Edge_arc u v weight (out_there s t u (ap (λ (b : Arc). stays s t b.from) (sym is) ∙ there.0))
        (in_there s t v (ap (λ (b : Arc). stays s t b.to) (sym is) ∙ there.1)) edge is

-- ---- numbers of parts

pub number_at : (n : ℕ) → number (part_at n) ≡ n
number_at n = go ((n % 2) == 0) refl
  where
    go : (b : Bool) → ((n % 2) == 0) ≡ b → number (cond b (parts.In (record { 0 = n / 2 })) (parts.Out (record { 0 = n / 2 }))) ≡ n
    go true e = let even : n % 2 ≡ 0 = eqb-true _ _ e in omega (arith, even)
    go false e = let odd : n % 2 ≢ 0 = grind (arith, nat_tests) in omega (arith, odd)

pub part_of_number : (p : Part) → part_at (number p) ≡ p
part_of_number (parts.In v) =
    let even : ((2 * v.0) % 2 == 0) ≡ true = let e : (2 * v.0) % 2 ≡ 0 = omega arith in rw e refl in
    let half : (2 * v.0) / 2 ≡ v.0 = omega arith in
    rw (even, half) refl
part_of_number (parts.Out v) =
    let odd : ((2 * v.0 + 1) % 2 == 0) ≡ false = let e : (2 * v.0 + 1) % 2 ≡ 1 = omega arith in rw e refl in
    let half : (2 * v.0 + 1) / 2 ≡ v.0 = omega arith in
    rw (odd, half) refl

-- ---- walks

-- a path has the ways of the walk
pub record Shape (lanes : List Lane) (u t : NodeId) (walk : List ℕ) : Type 0 where
  pub inner : List NodeId
  pub is : ways_along lanes walk ≡ ways u inner t

module _ (g : Graph) (s t : NodeId) (lanes : List Lane) (kind : (i : ℕ) → i < length lanes → ArcKind g s t (arc_of (lane_at lanes i))) where
  -- a lane out of a node is an edge's
  along : (u : NodeId) (i : ℕ) → i < length lanes → (lane_at lanes i).from ≡ number (parts.Out u)
      → (v : NodeId) × (way_of (lane_at lanes i) ≡ (parts.Out u, parts.In v))
  along u i inside from = go (kind i inside)
    where
      begins : part_at (lane_at lanes i).from ≡ parts.Out u
      begins = ap part_at from ∙ part_of_number (parts.Out u)

      go : ArcKind g s t (arc_of (lane_at lanes i)) → (v : NodeId) × (way_of (lane_at lanes i) ≡ (parts.Out u, parts.In v))
      go (Inner v not_s not_t is) = absurd (let x : true ≡ false = ap is_out (sym begins) ∙ ap (λ (a : Arc). is_out a.from) is in cc)
      go (Edge_arc a v weight not_t not_s edge is) = (v, ap (λ (p : Part). (p, part_at (lane_at lanes i).to)) begins ∙ ap (λ (b : Arc). (parts.Out u, b.to)) is)

  -- a lane out of an in-part goes through the node
  across : (v : NodeId) (i : ℕ) → i < length lanes → (lane_at lanes i).from ≡ number (parts.In v) → way_of (lane_at lanes i) ≡ (parts.In v, parts.Out v)
  across v i inside from = go (kind i inside)
    where
      begins : part_at (lane_at lanes i).from ≡ parts.In v
      begins = ap part_at from ∙ part_of_number (parts.In v)

      go : ArcKind g s t (arc_of (lane_at lanes i)) → way_of (lane_at lanes i) ≡ (parts.In v, parts.Out v)
      go (Inner x not_s not_t is) =
          let same : v ≡ x = ap node_of (sym begins) ∙ ap (λ (a : Arc). node_of a.from) is in
          ap (λ (p : Part). (p, part_at (lane_at lanes i).to)) begins ∙ ap (λ (b : Arc). (parts.In v, b.to)) is
          ∙ ap (λ (y : NodeId). (parts.In v, parts.Out y)) (sym same)
      go (Edge_arc a x weight not_t not_s edge is) = absurd (let x : false ≡ true = ap is_out (sym begins) ∙ ap (λ (b : Arc). is_out b.from) is in cc)

  ends_at : (l : Lane) (p : Part) → part_at l.to ≡ p → l.to ≡ number p
  ends_at l p e = sym (number_at l.to) ∙ ap number e

  pub shape : (u : NodeId) (walk : List ℕ) → ((i : ℕ) → Has walk i → i < length lanes) → Leads lanes (number (parts.Out u)) walk (number (parts.In t))
      → Shape lanes u t walk
  shape u [] inside leads = absurd (let odd : 2 * u.0 + 1 ≡ 2 * t.0 = leads in omega (arith, odd))
  shape u (i ∷ []) inside leads =
      let (v, is) = along u i (inside i (inl refl)) leads.0 in
      let ends : (lane_at lanes i).to ≡ number (parts.In v) = ends_at (lane_at lanes i) (parts.In v) (ap (λ (w : Way). w.1) is) in
      let home : v ≡ t = same_node v t (let even : 2 * v.0 ≡ 2 * t.0 = sym ends ∙ leads.1 in omega (arith, even)) in
      record { inner = []; is = ap (λ (w : Way). w ∷ []) (is ∙ ap (λ (x : NodeId). (parts.Out u, parts.In x)) home) }
  shape u (i ∷ j ∷ walk) inside leads =
      let (v, is) = along u i (inside i (inl refl)) leads.0 in
      let ends : (lane_at lanes i).to ≡ number (parts.In v) = ends_at (lane_at lanes i) (parts.In v) (ap (λ (w : Way). w.1) is) in
      let through = across v j (inside j (inr (inl refl))) (leads.1.0 ∙ ends) in
      let out : (lane_at lanes j).to ≡ number (parts.Out v) = ends_at (lane_at lanes j) (parts.Out v) (ap (λ (w : Way). w.1) through) in
      let rest = shape v walk (λ k h. inside k (inr (inr h))) (subst (λ (n : ℕ). Leads lanes n walk (number (parts.In t))) out leads.1.1) in
      record {
        inner = v ∷ rest.inner;
        is = ap (λ (w : Way). w ∷ way_of (lane_at lanes j) ∷ ways_along lanes walk) is
            ∙ ap (λ (w : Way). (parts.Out u, parts.In v) ∷ w ∷ ways_along lanes walk) through
            ∙ ap (λ (ws : List Way). (parts.Out u, parts.In v) ∷ (parts.In v, parts.Out v) ∷ ws) rest.is;
      }
