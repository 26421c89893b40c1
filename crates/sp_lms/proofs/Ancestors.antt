-- The way from a leaf to the root, one level after another.
use Rattle.std.proofs.Common.{◌≡◌, ℕ, zero, suc, ◌+◌, ◌-◌, ◌*◌, ◌/◌, ◌%◌, ◌^◌, ◌==◌, ◌≤◌, Bool, true, false, List, [], slice_index_or, refl, sym, ◌∙◌, ap}
use Rattle.std.proofs.Common.{add-one, arith}
use Rattle.std.proofs.Math.Nat.{div-div-eq-div-mul, div-one, pow-suc}
use Rattle.std.proofs.lemmas.Bool.{eqb-true, eqb-false}
use Rattle.std.proofs.lemmas.List.FromFn.{get_or-map-range_with_len}
use Rattle.sp_lms.specs.Trees.{tree_node, sibling, path, above, ancestor}

-- the number of a node one level higher
pub half : (r level : ℕ) → r / 2 ^ level / 2 ≡ r / 2 ^ suc level
half r level = div-div-eq-div-mul r (2 ^ level) 2 ∙ ap (λ (n : ℕ). r / n) (sym (pow-suc 2 level))

-- one level more
pub ancestor_more : (id : List ℕ) (siblings : List (List ℕ)) (r : ℕ) (node : List ℕ) (level : ℕ)
    → ancestor id siblings r node (level + 1) ≡ above id (r / 2 ^ level) (ancestor id siblings r node level) (slice_index_or siblings level [])
unfolding ancestor
ancestor_more id siblings r node level = rw add-one refl

pub half_more : (r level : ℕ) → r / 2 ^ level / 2 ≡ r / 2 ^ (level + 1)
half_more r level = rw add-one (half r level)

-- a node and its sibling stand below the node of half the number
by_parity : (id : List ℕ) (leaf : ℕ → List ℕ) (level r : ℕ) (b : Bool) → (r % 2 == 0) ≡ b
    → above id r (tree_node id leaf level r) (tree_node id leaf level (sibling r)) ≡ tree_node id leaf (suc level) (r / 2)
unfolding tree_node
by_parity id leaf level r true e =
    let even : r % 2 ≡ 0 = eqb-true (r % 2) 0 e in
    let left : 2 * (r / 2) ≡ r = omega arith in
    rw (e, left) refl
by_parity id leaf level r false e =
    let odd : r % 2 ≡ 0 → ⊥ = eqb-false (r % 2) 0 e in
    let left : 2 * (r / 2) ≡ r - 1 = omega arith in
    let right : r - 1 + 1 ≡ r = omega arith in
    rw (e, left, right) refl

above_siblings : (id : List ℕ) (leaf : ℕ → List ℕ) (level r : ℕ)
    → above id r (tree_node id leaf level r) (tree_node id leaf level (sibling r)) ≡ tree_node id leaf (suc level) (r / 2)
above_siblings id leaf level r = by_parity id leaf level r (r % 2 == 0) refl

-- the path of a tree leads from a leaf to the nodes above it
pub climbs : (id : List ℕ) (leaf : ℕ → List ℕ) (height r level : ℕ) → level ≤ height
    → ancestor id (path id leaf height r) r (leaf r) level ≡ tree_node id leaf level (r / 2 ^ level)
unfolding ancestor tree_node path
climbs id leaf height r zero within = ap leaf (sym (div-one r))
climbs id leaf height r (suc level) within =
    let f : ℕ → List ℕ = λ k. tree_node id leaf k (sibling (r / 2 ^ k)) in
    let other : slice_index_or (path id leaf height r) level [] ≡ f level = get_or-map-range_with_len f 0 height level level [] (omega arith) (omega arith) in
    let below = climbs id leaf height r level (omega arith) in
    ap (λ (x : List ℕ). above id (r / 2 ^ level) (ancestor id (path id leaf height r) r (leaf r) level) x) other
    ∙ ap (λ (x : List ℕ). above id (r / 2 ^ level) x (f level)) below
    ∙ above_siblings id leaf level (r / 2 ^ level)
    ∙ ap (tree_node id leaf (suc level)) (half r level)
