-- A page has at most one set for each destination and number of paths.
use Rattle.std.proofs.Common.{◌≡◌, ◌<◌, ◌≤◌, ℕ, suc, ◌+◌, ◌-◌, ◌*◌, true, false, List, [], ◌∷◌, length, get_or, map, ap, ◌∙◌, arith}
use Rattle.std.specs.Prelude.{◌≢◌, ◌==◌}
use Rattle.std.specs.List.{All, AllPairs, list_any}
use Rattle.std.proofs.Math.ListN.{get_or-map}
use Rattle.std.proofs.lemmas.Bool.Decides.{Decides-eqb, nat_tests}
use Rattle.std.proofs.lemmas.List.{get_or_default, length-map}
use Rattle.std.proofs.lemmas.Map.Made.{IsDistinct-from_AllPairs}
use Rattle.std.proofs.lemmas.Map.Steps.{length-le_from_distinct_below}
use Rattle.sp_base.specs.declared.id.NodeId.{NodeId}
use Rattle.sp_base.specs.declared.limits.TheConstants.{MAX_NODES_2}
use Rattle.sp_graph.specs.declared.graph.Graph.{Graph}
use Rattle.sp_routes.specs.declared.book.KeptSet.{KeptSet}
use Rattle.sp_routes.specs.Pages.{IsAnswer, is_for, no_set}
use Rattle.sp_paths.specs.Tests.{below}

-- the place of a destination among the nodes other than the source, and of a number of paths there
abbrev seat : ℕ → ℕ → ℕ → ℕ
seat s t k = (t - 1 - below s t) * 8 + (k - 1)

seat_small : (s t k : ℕ) → 1 ≤ s → s ≤ 32 → 1 ≤ t → t ≤ 32 → s ≢ t → 1 ≤ k → k ≤ 8 → seat s t k < 248
seat_small s t k s_some s_small t_some t_small other k_some k_small = grind (arith, nat_tests)

same_seat : (s t u k j : ℕ) → 1 ≤ s → 1 ≤ t → s ≢ t → 1 ≤ u → s ≢ u → 1 ≤ k → k ≤ 8 → 1 ≤ j → j ≤ 8 → seat s t k ≡ seat s u j → (t ≡ u) × (k ≡ j)
same_seat s t u k j s_some t_some t_other u_some u_other k_some k_small j_some j_small same = grind (arith, nat_tests)

any_below : (n q : ℕ) (xs : List ℕ) → All (λ x. x < n) xs → list_any (λ x. q == x) xs ≡ true → q < n
any_below n q [] are is = absurd (cc is)
any_below n q (x ∷ xs) are is =
    let first : x < n = are 0 0 (omega arith) in
    let rest : list_any (λ x. q == x) xs ≡ true → q < n = any_below n q xs (λ k d inside. are (suc k) d (omega arith)) in
    grind (arith, nat_tests, first, rest, is)

abbrev seat_of : NodeId → KeptSet → ℕ
seat_of s set = seat s.0 set.destination.0 set.count

seat_at : (s : NodeId) (sets : List KeptSet) (k d : ℕ) → k < length sets → get_or (map (seat_of s) sets) k d ≡ seat_of s (get_or sets k no_set)
seat_at s sets k d inside =
    let here : k < length (map (seat_of s) sets) = rw (length-map sets (seat_of s)) inside in
    get_or_default (map (seat_of s) sets) k d (seat_of s no_set) here ∙ get_or-map (seat_of s) sets k no_set

-- two nodes of one number are the same
apart : (s t : NodeId) → s ≢ t → s.0 ≢ t.0
apart s t other same = other (ap (λ (n : ℕ). record { 0 = n }) same)

small_at : (g : Graph) (s : NodeId) (set : KeptSet) → g.nodes ≤ MAX_NODES_2 → IsAnswer g s set → seat_of s set < 248
small_at g s set nodes is =
    let ends = is.2.ends in
    seat_small s.0 set.destination.0 set.count ends.0.0 (omega (arith, ends.0.1, nodes)) ends.1.0 (omega (arith, ends.1.1, nodes))
    (apart s set.destination ends.2) is.0 is.1

differ_at : (g : Graph) (s : NodeId) (set later : KeptSet) → IsAnswer g s set → IsAnswer g s later → is_for later.destination later.count set ≡ false
    → seat_of s set ≢ seat_of s later
differ_at g s set later is will other same =
    let ends = is.2.ends in
    let ends_of_later = will.2.ends in
    let both =
    same_seat s.0 set.destination.0 later.destination.0 set.count later.count ends.0.0 ends.1.0 (apart s set.destination ends.2)
    ends_of_later.1.0 (apart s later.destination ends_of_later.2) is.0 is.1 will.0 will.1 same in
    grind (arith, nat_tests, both, other)

pub few_sets : (g : Graph) (s : NodeId) (sets : List KeptSet) → g.nodes ≤ MAX_NODES_2 → All (IsAnswer g s) sets
    → AllPairs (λ (set later : KeptSet). is_for later.destination later.count set ≡ false) sets → length sets ≤ 248
few_sets g s sets nodes answers once =
    let seats = map (seat_of s) sets in
    let long : length seats ≡ length sets = length-map sets (seat_of s) in
    let small : All (λ (x : ℕ). x < 248) seats =
    λ k d inside. let here : k < length sets = omega (arith, inside, long) in
    rw (seat_at s sets k d here) (small_at g s (get_or sets k no_set) nodes (answers k no_set here)) in
    let apart_all : AllPairs (λ (x y : ℕ). x ≢ y) seats =
    λ i j d less inside. let there : j < length sets = omega (arith, inside, long) in
    let here : i < length sets = omega (arith, less, there) in
    rw (seat_at s sets i d here, seat_at s sets j d there)
    (differ_at g s (get_or sets i no_set) (get_or sets j no_set) (answers i no_set here) (answers j no_set there) (once i j no_set less there)) in
    rw (← long) (length-le_from_distinct_below seats 248 (IsDistinct-from_AllPairs Decides-eqb seats apart_all) (λ q is. any_below 248 q seats small is))
