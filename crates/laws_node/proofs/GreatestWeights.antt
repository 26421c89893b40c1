-- The effective weight is the greatest of the minimum and the last weights of both ends.
use Rattle.std.proofs.Common.{◌≡◌, ◌<◌, ℕ, zero, suc, ◌*◌, ◌+◌, true, false, List, [], ◌∷◌, length, Some, None, max, refl, ap, ◌∙◌, arith}
use Rattle.std.specs.Prelude.{◌==◌, slice_index_or}
use Rattle.std.specs.List.{slice_get}
use Rattle.std.proofs.lemmas.Bool.Decides.{nat_tests}
use Rattle.std.proofs.lemmas.List.{length-replicate}
use Rattle.sp_msg.specs.declared.kept.Kept.{Kept}
use Rattle.sp_topology.specs.declared.topology.Edge.{Edge}
use Rattle.sp_topology.specs.declared.topology.Topology.{Topology}
use Rattle.sp_topology.specs.Ranges.{ids_of}
use Rattle.sp_rules.specs.Handle.{offer_of}
use Rattle.sp_rules.specs.Topologies.{weights_in}
use Rattle.sp_rules.specs.Weights.{WeightState, minimum, row_of, start}
use Rattle.sp_rules.specs.declared.weights.Offer.{Offer}
use Rattle.sp_rules.specs.declared.weights.Offer.TheVariants as offers
use Rattle.laws_node.specs.HeldUpdates.{after, after_one, held_if, last_weight, taken}
use Rattle.laws_node.specs.WeightLaws.{EffectiveIsGreatest}
use Rattle.laws_node.proofs.UpdateRows.{ends_differ, nothing_held}
use Rattle.laws_node.proofs.LastWeights.{At, many_said, said}

pub low_row : (edge : ℕ) (e : Edge) → row_of edge e e.low.0 ≡ Some (2 * edge)
low_row edge e = let is : (e.low.0 == e.low.0) ≡ true = grind (arith, nat_tests) in rw is refl

pub high_row : (edge : ℕ) (e : Edge) → e.low.0 < e.high.0 → row_of edge e e.high.0 ≡ Some (2 * edge + 1)
high_row edge e below =
    let not : (e.low.0 == e.high.0) ≡ false = grind (arith, nat_tests) in
    let is : (e.high.0 == e.high.0) ≡ true = grind (arith, nat_tests) in
    rw (not, is) refl

-- a row that begins empty
from_start : (t : Topology) (messages : List Kept) (edge end row : ℕ) → At (start t) edge end row
    → said (after (start t) messages) row ≡ last_weight edge end 0 (taken (start t) messages)
from_start t messages edge end row here =
    many_said (start t) messages edge end row (record { rows = length-replicate (2 * length t.edges) None }) here
    ∙ ap (λ (weight : ℕ). last_weight edge end weight (taken (start t) messages)) (nothing_held (2 * length t.edges) row)

-- updates leave the minima
least_one : (s : WeightState) (o : Kept) (a : Offer) → (held_if a s o).least ≡ s.least
least_one s o offers.New = refl
least_one s o offers.Foreign = refl
least_one s o (offers.Low least) = refl
least_one s o (offers.Old held) = refl

least_after : (s : WeightState) (messages : List Kept) → (after s messages).least ≡ s.least
least_after s [] = refl
least_after s (o ∷ messages) = least_after (after_one s o) messages ∙ least_one s o (offer_of s o.body)

-- the minimum of an edge is its weight
weight_at : (edges : List Edge) (edge : ℕ) (e : Edge) → slice_get edges edge ≡ Some e → slice_index_or (weights_in edges) edge 0 ≡ e.weight
weight_at [] edge e there = absurd (cc)
weight_at (f ∷ edges) zero e there = let same : f ≡ e = cc in ap (λ (g : Edge). g.weight) same
weight_at (f ∷ edges) (suc edge) e there = weight_at edges edge e there

pub greatest : EffectiveIsGreatest
greatest t messages edge e good there =
    let least : minimum (after (start t) messages) edge ≡ e.weight =
    ap (λ (ws : List ℕ). slice_index_or ws edge 0) (least_after (start t) messages) ∙ weight_at t.edges edge e there in
    let low = from_start t messages edge e.low.0 (2 * edge) (record { joined = e; there = there; placed = low_row edge e }) in
    let below = ends_differ t.format (ids_of t.nodes) (0, 0) t.edges edge e good.graph.are_edges there in
    let high = from_start t messages edge e.high.0 (2 * edge + 1) (record { joined = e; there = there; placed = high_row edge e below }) in
    ap (λ (m : ℕ). max m (max (said (after (start t) messages) (2 * edge)) (said (after (start t) messages) (2 * edge + 1)))) least
    ∙ ap (λ (m : ℕ). max e.weight (max m (said (after (start t) messages) (2 * edge + 1)))) low
    ∙ ap (λ (m : ℕ). max e.weight (max (last_weight edge e.low.0 0 (taken (start t) messages)) m)) high
