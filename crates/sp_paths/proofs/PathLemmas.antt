-- Walks that take no lane twice are disjoint paths.
use Rattle.std.proofs.Common.{◌≡◌, ◌<◌, ℕ, true, false, List, [], ◌∷◌, ◌++◌, length, map, refl, sym, ap, subst, ◌∙◌, inl, inr, arith}
use Rattle.std.specs.Prelude.{◌⊎◌, ◌≢◌}
use Rattle.std.specs.List.{All, AllPairs, Contains}
use Rattle.std.proofs.lemmas.List.Elements.{All-nil, All-cons}
use Rattle.std.proofs.lemmas.List.Kept.{AllPairs-cons}
use Rattle.sp_base.specs.declared.id.NodeId.{NodeId}
use Rattle.sp_graph.specs.declared.graph.Graph.{Graph}
use Rattle.sp_graph.specs.declared.part.Part.TheVariants as parts
use Rattle.sp_graph.specs.Disjoint.{Apart}
use Rattle.sp_graph.specs.Split.{Arc, arcs_of}
use Rattle.sp_graph.specs.Walks.{IsPath, Joined, steps}
use Rattle.laws_paths.proofs.Kept.{Between}
use Rattle.laws_paths.proofs.Lists.{Distinct, Has, contains, distinct_append, has, has_either, has_left, has_right}
use Rattle.laws_paths.proofs.Ways.{Way, is_out, line, node_of, step_from, step_to, ways}
use Rattle.sp_paths.specs.declared.lane.Lane.{Lane}
use Rattle.sp_paths.specs.Lanes.{lane_at}
use Rattle.sp_paths.specs.Parts.{arc_of, number}
use Rattle.sp_paths.specs.Taken.{Leads}
use Rattle.sp_paths.specs.Visits.{path_along, visits, way_of, ways_along}
use Rattle.sp_paths.proofs.ArcsOnce.{ends_of, has_arc}
use Rattle.sp_paths.proofs.Shapes.{ArcKind, Inner, Edge_arc, arc_kind, from_map, shape}

-- ---- lists

pub distinct_left : {X : Type 0} (xs ys : List X) → Distinct (xs ++ ys) → Distinct xs
distinct_left [] ys once = tt
distinct_left (x ∷ xs) ys once = ((λ h. once.0 (has_left xs ys x h)), distinct_left xs ys once.1)

pub distinct_right : {X : Type 0} (xs ys : List X) → Distinct (xs ++ ys) → Distinct ys
distinct_right [] ys once = once
distinct_right (x ∷ xs) ys once = distinct_right xs ys once.1

pub distinct_across : {X : Type 0} (xs ys : List X) → Distinct (xs ++ ys) → (a : X) → Has xs a → Has ys a → ⊥
distinct_across [] ys once a h k = h
distinct_across (x ∷ xs) ys once a (inl e) k = once.0 (has_right xs ys x (subst (Has ys) (sym e) k))
distinct_across (x ∷ xs) ys once a (inr h) k = distinct_across xs ys once.1 a h k

-- what holds of each item that a list has holds of all of it
pub all_from : {X : Type 0} (P : X → Type 0) (xs : List X) → ((x : X) → Has xs x → P x) → All P xs
all_from P [] held = All-nil P
all_from P (x ∷ xs) held = All-cons P x xs (held x (inl refl)) (all_from P xs (λ y h. held y (inr h)))

pub pairs_of : {X : Type 0} (xs : List X) → Distinct xs → AllPairs (λ x y. x ≢ y) xs
pairs_of [] once = λ i j d less inside. absurd (omega (arith, inside))
pairs_of (x ∷ xs) once = AllPairs-cons (λ y z. y ≢ z) x xs (all_from (λ y. x ≢ y) xs (λ y h e. once.0 (subst (Has xs) (sym e) h))) (pairs_of xs once.1)

-- ---- ways

along_way : (u : NodeId) (inner : List NodeId) (t a b : NodeId) → Has (steps (line u inner t)) (a, b) → Has (ways u inner t) (parts.Out a, parts.In b)
along_way u [] t a b (inl e) = inl (ap (λ (x : NodeId × NodeId). (parts.Out x.0, parts.In x.1)) e)
along_way u [] t a b (inr h) = absurd h
along_way u (v ∷ vs) t a b (inl e) = inl (ap (λ (x : NodeId × NodeId). (parts.Out x.0, parts.In x.1)) e)
along_way u (v ∷ vs) t a b (inr h) = inr (inr (along_way v vs t a b h))

across_way : (u : NodeId) (inner : List NodeId) (t v : NodeId) → Has inner v → Has (ways u inner t) (parts.In v, parts.Out v)
across_way u [] t v h = absurd h
across_way u (x ∷ xs) t v (inl e) = inr (inl (ap (λ (y : NodeId). (parts.In y, parts.Out y)) e))
across_way u (x ∷ xs) t v (inr h) = inr (inr (across_way x xs t v h))

inner_once : (u : NodeId) (inner : List NodeId) (t : NodeId) → Distinct (ways u inner t) → Distinct inner
inner_once u [] t once = tt
inner_once u (v ∷ vs) t once = ((λ h. once.1.0 (across_way v vs t v h)), inner_once v vs t once.1.1)

line_once : (s : NodeId) (inner : List NodeId) (t : NodeId) → Distinct inner → (Has inner s → ⊥) → (Has inner t → ⊥) → s ≢ t → Distinct (line s inner t)
line_once s inner t once not_s not_t apart = ((λ h. first (has_either inner (t ∷ []) s h)), distinct_append inner (t ∷ []) once ((λ h. h), tt) last)
  where
    first : Has inner s ⊎ Has (t ∷ []) s → ⊥
    first (inl h) = not_s h
    first (inr (inl e)) = apart (sym e)
    first (inr (inr h)) = h

    last : (a : NodeId) → Has inner a → Has (t ∷ []) a → ⊥
    last a h (inl e) = not_t (subst (Has inner) (sym e) h)
    last a h (inr k) = k

visits_are : (u : NodeId) (inner : List NodeId) (t : NodeId) → visits (ways u inner t) ≡ inner ++ t ∷ []
visits_are u [] t = refl
visits_are u (v ∷ vs) t = ap (λ (rest : List NodeId). v ∷ rest) (visits_are v vs t)

-- ---- a walk along lanes of a graph

-- a walk laid out: its path over inner nodes, its ways once each, and each way an arc
pub record Laid (g : Graph) (s t : NodeId) (lanes : List Lane) (walk : List ℕ) : Type 0 where
  pub inner : List NodeId
  pub path : path_along lanes s walk ≡ line s inner t
  pub ways_here : ways_along lanes walk ≡ ways s inner t
  pub real : (w : Way) → Has (ways s inner t) w → (a : Arc) × ArcKind g s t a × (ends_of a ≡ w)

module _ (g : Graph) (s t : NodeId) (lanes : List Lane) (is : map arc_of lanes ≡ arcs_of g s t) where
  pub lane_kind : (i : ℕ) → i < length lanes → ArcKind g s t (arc_of (lane_at lanes i))
  lane_kind i inside = arc_kind g s t (arc_of (lane_at lanes i)) (has_arc lanes (arcs_of g s t) is i inside)

  pub lay : (walk : List ℕ) → ((i : ℕ) → Has walk i → i < length lanes) → Leads lanes (number (parts.Out s)) walk (number (parts.In t)) → Laid g s t lanes walk
  lay walk inside leads =
      let formed = shape g s t lanes lane_kind s walk inside leads in
      record {
        inner = formed.inner;
        path = ap (λ (ws : List Way). s ∷ visits ws) formed.is ∙ ap (λ (vs : List NodeId). s ∷ vs) (visits_are s formed.inner t);
        ways_here = formed.is;
        real = λ w h.
            let (i, at, e) = from_map (λ j. way_of (lane_at lanes j)) walk w (subst (λ (ws : List Way). Has ws w) (sym formed.is) h) in
            (arc_of (lane_at lanes i), lane_kind i (inside i at), e);
      }

-- an inner node is no end
inner_kind : (g : Graph) (s t : NodeId) (a : Arc) (v : NodeId) → ArcKind g s t a → ends_of a ≡ (parts.In v, parts.Out v) → (v ≢ s) × (v ≢ t)
inner_kind g s t a v (Inner x not_s not_t is) e =
    let same : v ≡ x = ap (λ (w : Way). node_of w.0) (sym e) ∙ ap (λ (b : Arc). node_of b.from) is in
    ((λ f. not_s (sym same ∙ f)), (λ f. not_t (sym same ∙ f)))
inner_kind g s t a v (Edge_arc x y weight not_t not_s edge is) e =
    absurd (let x : false ≡ true = ap (λ (w : Way). is_out w.0) (sym e) ∙ ap (λ (b : Arc). is_out b.from) is in cc)

-- a step is along an edge, not from the destination and not to the source
step_kind : (g : Graph) (s t : NodeId) (a : Arc) (u v : NodeId) → ArcKind g s t a → ends_of a ≡ (parts.Out u, parts.In v)
    → Between g.edges u v × (u ≢ t) × (v ≢ s)
step_kind g s t a u v (Inner x not_s not_t is) e =
    absurd (let x : true ≡ false = ap (λ (w : Way). is_out w.0) (sym e) ∙ ap (λ (b : Arc). is_out b.from) is in cc)
step_kind g s t a u v (Edge_arc x y weight not_t not_s edge is) e =
    let from : x ≡ u = ap (λ (b : Arc). node_of b.from) (sym is) ∙ ap (λ (w : Way). node_of w.0) e in
    let to : y ≡ v = ap (λ (b : Arc). node_of b.to) (sym is) ∙ ap (λ (w : Way). node_of w.1) e in
    (subst (λ (n : NodeId). Between g.edges n v) from (subst (λ (n : NodeId). Between g.edges x n) to edge), (λ f. not_t (from ∙ f)), (λ f. not_s (to ∙ f)))

joined_by_edge : (g : Graph) (a b : NodeId) → Between g.edges a b → Joined g (a, b)
joined_by_edge g a b (e, at, test) = let place = contains g.edges e at in (place.0, e, place.1, place.2, test)

module _ (g : Graph) (s t : NodeId) (apart_ends : s ≢ t) (lanes : List Lane) where
  inner_is : (walk : List ℕ) (l : Laid g s t lanes walk) (v : NodeId) → Has l.inner v → (v ≢ s) × (v ≢ t)
  inner_is walk l v h = let (a, k, e) = l.real (parts.In v, parts.Out v) (across_way s l.inner t v h) in inner_kind g s t a v k e

  step_is : (walk : List ℕ) (l : Laid g s t lanes walk) (a b : NodeId) → Has (steps (line s l.inner t)) (a, b) → Between g.edges a b × (a ≢ t) × (b ≢ s)
  step_is walk l a b h = let (x, k, e) = l.real (parts.Out a, parts.In b) (along_way s l.inner t a b h) in step_kind g s t x a b k e

  pub path_is : (walk : List ℕ) → Laid g s t lanes walk → Distinct (ways_along lanes walk) → IsPath g s t (path_along lanes s walk)
  path_is walk l once =
      let line_is_once =
      line_once s l.inner t (inner_once s l.inner t (subst Distinct l.ways_here once)) (λ h. (inner_is walk l s h).0 refl)
      (λ h. (inner_is walk l t h).1 refl) apart_ends in
      let good : IsPath g s t (line s l.inner t) = record {
        ends = (l.inner, refl);
        joined = all_from (Joined g) (steps (line s l.inner t)) (λ x h. joined_by_edge g x.0 x.1 (step_is walk l x.0 x.1 h).0);
        once = pairs_of (line s l.inner t) line_is_once;
      } in
      subst (IsPath g s t) (sym l.path) good

  pub paths_apart : (one two : List ℕ) → Laid g s t lanes one → Laid g s t lanes two
      → ((w : Way) → Has (ways_along lanes one) w → Has (ways_along lanes two) w → ⊥) → Apart s t (path_along lanes s one) (path_along lanes s two)
  paths_apart one two l m apart = record { nodes = nodes; edges = edges }
    where
      no_way : (w : Way) → Has (ways s l.inner t) w → Has (ways s m.inner t) w → ⊥
      no_way w h k = apart w (subst (λ (ws : List Way). Has ws w) (sym l.ways_here) h) (subst (λ (ws : List Way). Has ws w) (sym m.ways_here) k)

      no_node : (v : NodeId) → Has l.inner v → Has m.inner v → ⊥
      no_node v h k = no_way (parts.In v, parts.Out v) (across_way s l.inner t v h) (across_way s m.inner t v k)

      where_in : (inner : List NodeId) (v : NodeId) → Has (line s inner t) v → Has inner v ⊎ ((v ≡ s) ⊎ (v ≡ t))
      where_in inner v (inl e) = inr (inl (sym e))
      where_in inner v (inr h) = last (has_either inner (t ∷ []) v h)
        where
          last : Has inner v ⊎ Has (t ∷ []) v → Has inner v ⊎ ((v ≡ s) ⊎ (v ≡ t))
          last (inl k) = inl k
          last (inr (inl e)) = inr (inr (sym e))
          last (inr (inr k)) = absurd k

      nodes : (v : NodeId) → Contains (path_along lanes s one) v → Contains (path_along lanes s two) v → (v ≡ s) ⊎ (v ≡ t)
      nodes v h k =
          go (where_in l.inner v (subst (λ (p : List NodeId). Has p v) l.path (has (path_along lanes s one) v h)))
          (where_in m.inner v (subst (λ (p : List NodeId). Has p v) m.path (has (path_along lanes s two) v k)))
        where
          go : Has l.inner v ⊎ ((v ≡ s) ⊎ (v ≡ t)) → Has m.inner v ⊎ ((v ≡ s) ⊎ (v ≡ t)) → (v ≡ s) ⊎ (v ≡ t)
          go (inr e) f = e
          go (inl a) (inr f) = f
          go (inl a) (inl b) = absurd (no_node v a b)

      on_one : (x : NodeId × NodeId) → Contains (steps (path_along lanes s one)) x → Has (steps (line s l.inner t)) x
      on_one x h = subst (λ (p : List NodeId). Has (steps p) x) l.path (has (steps (path_along lanes s one)) x h)

      on_two : (x : NodeId × NodeId) → Contains (steps (path_along lanes s two)) x → Has (steps (line s m.inner t)) x
      on_two x h = subst (λ (p : List NodeId). Has (steps p) x) m.path (has (steps (path_along lanes s two)) x h)

      -- a node that one path leaves and the other enters lies inside both
      left_one : (u v : NodeId) → Has (steps (line s l.inner t)) (u, v) → u ≢ s → Has l.inner u
      left_one u v h not_s = go (step_from s l.inner t u v h)
        where
          go : Has (s ∷ l.inner) u → Has l.inner u
          go (inl e) = absurd (not_s (sym e))
          go (inr k) = k

      entered_two : (u v : NodeId) → Has (steps (line s m.inner t)) (v, u) → u ≢ t → Has m.inner u
      entered_two u v h not_t = go (has_either m.inner (t ∷ []) u (step_to s m.inner t v u h))
        where
          go : Has m.inner u ⊎ Has (t ∷ []) u → Has m.inner u
          go (inl k) = k
          go (inr (inl e)) = absurd (not_t (sym e))
          go (inr (inr k)) = absurd k

      edges : (u v : NodeId) → Contains (steps (path_along lanes s one)) (u, v)
          → Contains (steps (path_along lanes s two)) (u, v) ⊎ Contains (steps (path_along lanes s two)) (v, u) → ⊥
      edges u v h (inl k) = no_way (parts.Out u, parts.In v) (along_way s l.inner t u v (on_one (u, v) h)) (along_way s m.inner t u v (on_two (u, v) k))
      edges u v h (inr k) =
          let leaves = step_is one l u v (on_one (u, v) h) in
          let enters = step_is two m v u (on_two (v, u) k) in
          no_node u (left_one u v (on_one (u, v) h) enters.2) (entered_two u v (on_two (v, u) k) leaves.1)
