-- The ways of disjoint paths together: each of them stands there once, and is an arc of the split graph.
use Rattle.std.proofs.Common.{◌≡◌, suc, true, false, List, [], ◌∷◌, ◌++◌, refl, sym, ap, subst, ◌∙◌, inl, inr, arith}
use Rattle.std.specs.Prelude.{◌⊎◌}
use Rattle.std.specs.List.{All, AllPairs}
use Rattle.std.proofs.lemmas.List.Elements.{All-head, All-tail}
use Rattle.sp_base.specs.declared.id.NodeId.{NodeId}
use Rattle.sp_graph.specs.declared.graph.Graph.{Graph}
use Rattle.sp_graph.specs.declared.part.Part.TheVariants as parts
use Rattle.sp_graph.specs.Disjoint.{Apart, cost}
use Rattle.sp_graph.specs.Edges.{IsGraph}
use Rattle.sp_graph.specs.Split.{arcs_of}
use Rattle.sp_graph.specs.Walks.{IsPath, Joined, path_cost, steps}
use Rattle.laws_paths.proofs.Lists.{Distinct, Has, contains, distinct, distinct_append, has_either, has_left, held, not_last, total, total_append, total_is}
use Rattle.laws_paths.proofs.Kept.{arcs_kept, between}
use Rattle.laws_paths.proofs.Ways.{Kind, Along, Across, Way, arc_at, cost_is, is_out, kind, line, node_of, price, ways, ways_are, ways_of, ways_once}

abbrev pub together : List (List NodeId) → List Way
together [] = []
together (p ∷ ps) = ways_of p ++ together ps

-- a path with its inner nodes
pub record Laid (g : Graph) (s t : NodeId) (path : List NodeId) : Type 0 where
  pub inner : List NodeId
  pub is : path ≡ line s inner t
  pub once : Distinct (line s inner t)
  pub ways_are : ways_of path ≡ ways s inner t

pub laid : (g : Graph) (s t : NodeId) (path : List NodeId) → IsPath g s t path → Laid g s t path
laid g s t path good = record {
  inner = good.ends.0;
  is = good.ends.1;
  once = subst Distinct good.ends.1 (distinct path good.once);
  ways_are = ap ways_of good.ends.1 ∙ ways_are s good.ends.0 t;
}

pub of_way : (g : Graph) (s t : NodeId) (path : List NodeId) → (l : Laid g s t path) → (w : Way) → Has (ways_of path) w → Kind s l.inner t w
of_way g s t path l w h = kind s l.inner t w (subst (λ (ws : List Way). Has ws w) l.ways_are h)

path_once : (g : Graph) (s t : NodeId) (path : List NodeId) → IsPath g s t path → Distinct (ways_of path)
path_once g s t path good = let l = laid g s t path good in subst Distinct (sym l.ways_are) (ways_once s l.inner t l.once)

path_kept : (g : Graph) (s t : NodeId) (path : List NodeId) → IsGraph g → IsPath g s t path → (w : Way) → Has (ways_of path) w
    → Has (arcs_of g s t) (arc_at g w)
path_kept g s t path right good w h =
    let l = laid g s t path good in
    arcs_kept g s l.inner t right l.once
    (λ a b at. between g a b (held (Joined g) (steps path) (a, b) good.joined (subst (λ (p : List NodeId). Has (steps p) (a, b)) (sym l.is) at)))
    w (subst (λ (ws : List Way). Has ws w) l.ways_are h)

-- two paths that are apart have no way in common
no_shared : (g : Graph) (s t : NodeId) (p q : List NodeId) → IsPath g s t p → IsPath g s t q → Apart s t p q → (w : Way) → Has (ways_of p) w → Has (ways_of q) w
    → ⊥
no_shared g s t p q good other apart w h k = go (of_way g s t p l w h) (of_way g s t q m w k)
  where
    l : Laid g s t p
    l = laid g s t p good

    m : Laid g s t q
    m = laid g s t q other

    on_p : (x : NodeId × NodeId) → Has (steps (line s l.inner t)) x → Has (steps p) x
    on_p x at = subst (λ (r : List NodeId). Has (steps r) x) (sym l.is) at

    on_q : (x : NodeId × NodeId) → Has (steps (line s m.inner t)) x → Has (steps q) x
    on_q x at = subst (λ (r : List NodeId). Has (steps r) x) (sym m.is) at

    inside : (r inner : List NodeId) (v : NodeId) → r ≡ line s inner t → Has inner v → Has r v
    inside r inner v is at = subst (λ (x : List NodeId). Has x v) (sym is) (inr (has_left inner (t ∷ []) v at))

    an_end : (v : NodeId) → Has l.inner v → (v ≡ s) ⊎ (v ≡ t) → ⊥
    an_end v at (inl e) = l.once.0 (subst (Has (l.inner ++ t ∷ [])) e (has_left l.inner (t ∷ []) v at))
    an_end v at (inr e) = not_last l.inner t v l.once.1 at e

    go : Kind s l.inner t w → Kind s m.inner t w → ⊥
    go (Along a b at is) (Along c d to also) =
        let same : (parts.Out a, parts.In b) ≡ (parts.Out c, parts.In d) = sym is ∙ also in
        let from : a ≡ c = ap (λ (x : Way). node_of x.0) same in
        let end : b ≡ d = ap (λ (x : Way). node_of x.1) same in
        apart.edges a b (contains (steps p) (a, b) (on_p (a, b) at))
        (inl (contains (steps q) (a, b)
        (on_q (a, b)
        (subst (λ (x : NodeId). Has (steps (line s m.inner t)) (x, b)) (sym from)
        (subst (λ (x : NodeId). Has (steps (line s m.inner t)) (c, x)) (sym end) to)))))
    go (Along a b at is) (Across v to also) = let same : true ≡ false = ap (λ (x : Way). is_out x.0) (sym is ∙ also) in absurd cc
    go (Across v at is) (Along c d to also) = let same : false ≡ true = ap (λ (x : Way). is_out x.0) (sym is ∙ also) in absurd cc
    go (Across v at is) (Across x to also) =
        let same : (parts.In v, parts.Out v) ≡ (parts.In x, parts.Out x) = sym is ∙ also in
        let one : v ≡ x = ap (λ (y : Way). node_of y.0) same in
        an_end v at (apart.nodes v (contains p v (inside p l.inner v l.is at)) (contains q v (inside q m.inner v m.is (subst (Has m.inner) (sym one) to))))

no_shared_with_all : (g : Graph) (s t : NodeId) (p : List NodeId) (qs : List (List NodeId)) → IsPath g s t p → All (IsPath g s t) qs → All (Apart s t p) qs
    → (w : Way) → Has (ways_of p) w → Has (together qs) w → ⊥
no_shared_with_all g s t p [] good others apart w h k = k
no_shared_with_all g s t p (q ∷ qs) good others apart w h k =
    go (has_either (ways_of q) (together qs) w k)
    (no_shared_with_all g s t p qs good (All-tail (IsPath g s t) q qs others) (All-tail (Apart s t p) q qs apart) w h)
  where
    go : Has (ways_of q) w ⊎ Has (together qs) w → (Has (together qs) w → ⊥) → ⊥
    go (inl at) rest = no_shared g s t p q good (All-head (IsPath g s t) q qs others) (All-head (Apart s t p) q qs apart) w h at
    go (inr at) rest = rest at

pub all_once : (g : Graph) (s t : NodeId) (ps : List (List NodeId)) → All (IsPath g s t) ps → AllPairs (Apart s t) ps → Distinct (together ps)
all_once g s t [] good apart = tt
all_once g s t (p ∷ ps) good apart =
    let first = All-head (IsPath g s t) p ps good in
    let later = All-tail (IsPath g s t) p ps good in
    distinct_append (ways_of p) (together ps) (path_once g s t p first)
    (all_once g s t ps later (λ i j d less inside. apart (suc i) (suc j) d (omega (arith, less)) (omega (arith, inside))))
    (no_shared_with_all g s t p ps first later (λ j d inside. apart 0 (suc j) d (omega arith) (omega (arith, inside))))

pub all_kept : (g : Graph) (s t : NodeId) (ps : List (List NodeId)) → IsGraph g → All (IsPath g s t) ps → (w : Way) → Has (together ps) w
    → Has (arcs_of g s t) (arc_at g w)
all_kept g s t [] right good w h = absurd h
all_kept g s t (p ∷ ps) right good w h = go (has_either (ways_of p) (together ps) w h) (all_kept g s t ps right (All-tail (IsPath g s t) p ps good) w)
  where
    go : Has (ways_of p) w ⊎ Has (together ps) w → (Has (together ps) w → Has (arcs_of g s t) (arc_at g w)) → Has (arcs_of g s t) (arc_at g w)
    go (inl at) rest = path_kept g s t p right (All-head (IsPath g s t) p ps good) w at
    go (inr at) rest = rest at

-- what paths cost is the price of their ways
pub prices : (g : Graph) (s t : NodeId) (ps : List (List NodeId)) → All (IsPath g s t) ps → cost g ps ≡ total (price g) (together ps)
prices g s t ps good = total_is (path_cost g) ps ∙ each ps good
  where
    each : (qs : List (List NodeId)) → All (IsPath g s t) qs → total (path_cost g) qs ≡ total (price g) (together qs)
    each [] good = refl
    each (q ∷ qs) good =
        let first = All-head (IsPath g s t) q qs good in
        let one = cost_is g q s first.ends.0 t first.ends.1 in
        let rest = each qs (All-tail (IsPath g s t) q qs good) in
        let all = total_append (price g) (ways_of q) (together qs) in
        omega (arith, one, rest, all)
