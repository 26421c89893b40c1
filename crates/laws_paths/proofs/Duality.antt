-- Potentials prove the least cost: along a path the potential rises by no more than the path costs, but for what used arcs rise above their cost.
use Rattle.std.proofs.Common.{◌≡◌, ◌<◌, ◌≤◌, ◌+◌, ℕ, Bool, true, false, cond, List, [], ◌∷◌, length, refl, sym, ap, subst, ◌∙◌, inl, inr, arith}
use Rattle.std.specs.Prelude.{◌⊎◌, ◌&&◌, ℤ, pos, negsuc, ◌+ℤ◌, ◌-ℤ◌, ◌≤ℤ◌}
use Rattle.std.specs.List.{All, list_any}
use Rattle.std.proofs.lemmas.Int.{ints}
use Rattle.std.proofs.lemmas.List.Elements.{All-head, All-tail}
use Rattle.sp_base.specs.declared.id.NodeId.{NodeId}
use Rattle.sp_graph.specs.declared.graph.Graph.{Graph}
use Rattle.sp_graph.specs.declared.part.Part.{Part}
use Rattle.sp_graph.specs.declared.part.Part.TheVariants as parts
use Rattle.sp_graph.specs.Certificates.{IsOptimal, reduced_cost, residual, turned, uses}
use Rattle.sp_graph.specs.Split.{Arc, arcs_of, is_same}
use Rattle.sp_graph.specs.Walks.{IsPath}
use Rattle.laws_paths.specs.Laws.{CertifiedIsLeast}
use Rattle.laws_paths.proofs.Kept.{both_true, is_same_itself, is_same_true}
use Rattle.laws_paths.proofs.Lists.{Has, any_has, either_true, has_any, has_either, has_left, has_map, has_right, held, or_first, or_true, total, total_append}
use Rattle.laws_paths.proofs.Lists.{within}
use Rattle.laws_paths.proofs.Sets.{all_kept, all_once, laid, prices, together}
use Rattle.laws_paths.proofs.Ways.{Way, arc_at, price, ways, ways_of}

-- a whole number, or 0 where it is below
abbrev pub above : ℤ → ℕ
above (pos n) = n
above (negsuc n) = 0

at_most : (z : ℤ) → z ≤ℤ pos (above z)
at_most (pos n) = omega (arith, ints)
at_most (negsuc n) = omega (arith, ints)

exactly : (z : ℤ) → pos 0 ≤ℤ z → pos (above z) ≡ z
exactly (pos n) low = refl
exactly (negsuc n) low = absurd (omega (arith, ints, low))

-- how much the potential rises on a way above what the way costs
rise : Graph → (Part → ℤ) → Way → ℤ
rise g p w = (p w.1 -ℤ p w.0) -ℤ pos (price g w)

loss : Graph → (Part → ℤ) → Way → ℕ
loss g p w = above (rise g p w)

-- the potential falls nowhere below what the way costs
Rises : Graph → (Part → ℤ) → Way → Type 0
Rises g p w = pos 0 ≤ℤ rise g p w

step_most : (g : Graph) (p : Part → ℤ) (w : Way) → p w.1 ≤ℤ (p w.0 +ℤ pos (price g w + loss g p w))
unfolding loss rise
step_most g p w = let most = at_most ((p w.1 -ℤ p w.0) -ℤ pos (price g w)) in omega (arith, ints, most)

step_is : (g : Graph) (p : Part → ℤ) (w : Way) → Rises g p w → p w.1 ≡ (p w.0 +ℤ pos (price g w + loss g p w))
unfolding loss rise Rises
step_is g p w low = let is = exactly ((p w.1 -ℤ p w.0) -ℤ pos (price g w)) low in omega (arith, ints, is)

-- what ways cost, and what is lost on them
abbrev spent : Graph → (Part → ℤ) → List Way → ℕ
spent g p ws = total (λ w. price g w + loss g p w) ws

line_most : (g : Graph) (p : Part → ℤ) (u : NodeId) (inner : List NodeId) (t : NodeId) → p (parts.In t) ≤ℤ (p (parts.Out u) +ℤ pos (spent g p (ways u inner t)))
line_most g p u [] t = let one = step_most g p (parts.Out u, parts.In t) in omega (arith, ints, one)
line_most g p u (v ∷ vs) t =
    let one = step_most g p (parts.Out u, parts.In v) in
    let two = step_most g p (parts.In v, parts.Out v) in
    let rest = line_most g p v vs t in
    omega (arith, ints, one, two, rest)

line_is : (g : Graph) (p : Part → ℤ) (u : NodeId) (inner : List NodeId) (t : NodeId) → ((w : Way) → Has (ways u inner t) w → Rises g p w)
    → p (parts.In t) ≡ (p (parts.Out u) +ℤ pos (spent g p (ways u inner t)))
line_is g p u [] t low = let one = step_is g p (parts.Out u, parts.In t) (low _ (inl refl)) in omega (arith, ints, one)
line_is g p u (v ∷ vs) t low =
    let one = step_is g p (parts.Out u, parts.In v) (low _ (inl refl)) in
    let two = step_is g p (parts.In v, parts.Out v) (low _ (inr (inl refl))) in
    let rest = line_is g p v vs t (λ w h. low w (inr (inr h))) in
    omega (arith, ints, one, two, rest)

-- a path on which the potential falls nowhere spends no more than any other path
pair : (g : Graph) (p : Part → ℤ) (s t : NodeId) (ours theirs : List NodeId) → IsPath g s t ours → IsPath g s t theirs
    → ((w : Way) → Has (ways_of ours) w → Rises g p w)
    → spent g p (ways_of ours) ≤ spent g p (ways_of theirs)
pair g p s t ours theirs good other low =
    let l = laid g s t ours good in
    let m = laid g s t theirs other in
    let one = line_is g p s l.inner t (λ w h. low w (subst (λ (ws : List Way). Has ws w) (sym l.ways_are) h)) in
    let two = line_most g p s m.inner t in
    let here : spent g p (ways_of ours) ≡ spent g p (ways s l.inner t) = ap (spent g p) l.ways_are in
    let there : spent g p (ways_of theirs) ≡ spent g p (ways s m.inner t) = ap (spent g p) m.ways_are in
    omega (arith, ints, one, two, here, there)

pair_up : (g : Graph) (p : Part → ℤ) (s t : NodeId) (ours theirs : List (List NodeId)) → length ours ≡ length theirs → All (IsPath g s t) ours
    → All (IsPath g s t) theirs
    → ((w : Way) → Has (together ours) w → Rises g p w) → spent g p (together ours) ≤ spent g p (together theirs)
pair_up g p s t [] [] even good other low = omega arith
pair_up g p s t [] (q ∷ qs) even good other low = absurd (omega (arith, even))
pair_up g p s t (o ∷ os) [] even good other low = absurd (omega (arith, even))
pair_up g p s t (o ∷ os) (q ∷ qs) even good other low =
    let of_way : Way → ℕ = λ w. price g w + loss g p w in
    let one = pair g p s t o q (All-head (IsPath g s t) o os good) (All-head (IsPath g s t) q qs other)
    (λ w h. low w (has_left (ways_of o) (together os) w h)) in
    let rest = pair_up g p s t os qs (omega (arith, even)) (All-tail (IsPath g s t) o os good) (All-tail (IsPath g s t) q qs other)
    (λ w h. low w (has_right (ways_of o) (together os) w h)) in
    omega (arith, one, rest, total_append of_way (ways_of o) (together os), total_append of_way (ways_of q) (together qs))

both_sums : (g : Graph) (p : Part → ℤ) (ws : List Way) → spent g p ws ≡ total (price g) ws + total (loss g p) ws
both_sums g p [] = omega arith
both_sums g p (w ∷ ws) = omega (arith, both_sums g p ws)

-- an arc is used exactly where its ends are a way of a path
goes : (w : Way) (step : Way) → Bool
goes w step = is_same step.0 w.0 && is_same step.1 w.1

pub used_is_way : (g : Graph) (ps : List (List NodeId)) (w : Way) → uses ps (arc_at g w) ≡ true → Has (together ps) w
unfolding goes
used_is_way g [] w e = absurd cc
used_is_way g (p ∷ ps) w e = go (either_true (list_any (goes w) (ways_of p)) (uses ps (arc_at g w)) e) (used_is_way g ps w)
  where
    go : (list_any (goes w) (ways_of p) ≡ true) ⊎ (uses ps (arc_at g w) ≡ true) → (uses ps (arc_at g w) ≡ true → Has (together ps) w)
        → Has (together (p ∷ ps)) w
    go (inl f) rest =
        let at = any_has (goes w) (ways_of p) f in
        let k = both_true (is_same at.0.0 w.0) (is_same at.0.1 w.1) at.2 in
        let from : at.0.0 ≡ w.0 = is_same_true at.0.0 w.0 k.0 in
        let end : at.0.1 ≡ w.1 = is_same_true at.0.1 w.1 k.1 in
        let same : at.0 ≡ w = ap (λ (x : Part). (x, at.0.1)) from ∙ ap (λ (x : Part). (w.0, x)) end in
        has_left (ways_of p) (together ps) w (subst (Has (ways_of p)) same at.1)
    go (inr f) rest = has_right (ways_of p) (together ps) w (rest f)

goes_itself : (w : Way) → goes w w ≡ true
unfolding goes
goes_itself w = let one = is_same_itself w.0 in let two = is_same_itself w.1 in rw (one, two) refl

-- a way that paths go together is used by them
pub way_is_used : (g : Graph) (ps : List (List NodeId)) (w : Way) → Has (together ps) w → uses ps (arc_at g w) ≡ true
unfolding goes
way_is_used g [] w h = absurd h
way_is_used g (p ∷ ps) w h = go (has_either (ways_of p) (together ps) w h) (way_is_used g ps w)
  where
    go : Has (ways_of p) w ⊎ Has (together ps) w → (Has (together ps) w → uses ps (arc_at g w) ≡ true) → uses (p ∷ ps) (arc_at g w) ≡ true
    go (inl at) rest = or_first (list_any (goes w) (ways_of p)) (uses ps (arc_at g w)) (has_any (goes w) (ways_of p) w at (goes_itself w))
    go (inr at) rest = or_true (list_any (goes w) (ways_of p)) (uses ps (arc_at g w)) (rest at)

-- what the certificate says of an arc
at_arc : (g : Graph) (s t : NodeId) (ps : List (List NodeId)) (p : Part → ℤ) → IsOptimal g s t ps p → (a : Arc) → Has (arcs_of g s t) a
    → pos 0 ≤ℤ reduced_cost p (cond (uses ps a) (turned a) a)
at_arc g s t ps p best a h =
    let left : Arc → Arc = λ b. cond (uses ps b) (turned b) b in
    held (λ b. pos 0 ≤ℤ reduced_cost p b) (residual g s t ps) (left a) best (has_map left (arcs_of g s t) a h)

rises : (g : Graph) (s t : NodeId) (ps : List (List NodeId)) (p : Part → ℤ) → IsOptimal g s t ps p → (w : Way) → Has (arcs_of g s t) (arc_at g w)
    → uses ps (arc_at g w) ≡ true → Rises g p w
unfolding Rises rise
rises g s t ps p best w h used =
    let low : pos 0 ≤ℤ reduced_cost p (turned (arc_at g w)) = rw used at (at_arc g s t ps p best (arc_at g w) h) in
    omega (arith, ints, low)

no_loss : (g : Graph) (s t : NodeId) (ps : List (List NodeId)) (p : Part → ℤ) → IsOptimal g s t ps p → (w : Way) → Has (arcs_of g s t) (arc_at g w)
    → uses ps (arc_at g w) ≡ false → loss g p w ≡ 0
unfolding loss rise
no_loss g s t ps p best w h free = go ((p w.1 -ℤ p w.0) -ℤ pos (price g w)) refl
  where
    low : pos 0 ≤ℤ reduced_cost p (arc_at g w)
    low = rw free at (at_arc g s t ps p best (arc_at g w) h)

    go : (z : ℤ) → ((p w.1 -ℤ p w.0) -ℤ pos (price g w)) ≡ z → above z ≡ 0
    go (pos n) e = omega (arith, ints, low, e)
    go (negsuc n) e = refl

pub certified_is_least : CertifiedIsLeast
certified_is_least g s t k ps p right good best qs other =
    let lost = within (loss g p) (together qs) (together ps) (all_once g s t qs other.are_paths other.apart)
    (λ w h counts. counted w h counts (uses ps (arc_at g w)) refl) in
    let spent_most = pair_up g p s t ps qs (good.count ∙ sym other.count) good.are_paths other.are_paths
    (λ w h. rises g s t ps p best w (all_kept g s t ps right good.are_paths w h) (way_is_used g ps w h)) in
    omega (arith, lost, spent_most, both_sums g p (together ps), both_sums g p (together qs), prices g s t ps good.are_paths, prices g s t qs other.are_paths)
  where
    counted : (w : Way) → Has (together qs) w → 0 < loss g p w → (b : Bool) → uses ps (arc_at g w) ≡ b → Has (together ps) w
    counted w h counts true e = used_is_way g ps w e
    counted w h counts false e = absurd (omega (arith, counts, no_loss g s t ps p best w (all_kept g s t qs right other.are_paths w h) e))
