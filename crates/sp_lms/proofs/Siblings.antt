-- The siblings on the way from a leaf, where a key keeps all nodes.
use Rattle.std.proofs.Common.{◌≡◌, ℕ, ◌+◌, ◌-◌, ◌*◌, ◌/◌, ◌%◌, ◌^◌, ◌==◌, ◌<◌, ◌≤◌, Bool, true, false, List, [], length, slice_index_or, refl, ◌∙◌, ap, arith}
use Rattle.std.proofs.Math.Pow.{pow_mono}
use Rattle.std.proofs.lemmas.List.{get_or_read}
use Rattle.std.proofs.lemmas.Bool.{eqb-true, eqb-false}
use Rattle.sp_lms.specs.Trees.{tree_node, sibling}
use Rattle.sp_lms.specs.Nodes.{IsOnLevel, HasNodes}
use Rattle.sp_lms.proofs.Levels.{doubled, above_leaf}

-- siblings are on one level
siblings_meet : (a r : ℕ) (b : Bool) → (r % 2 == 0) ≡ b → 2 * a ≤ r → r < 2 * (2 * a) → (2 * a ≤ sibling r) × (sibling r < 2 * (2 * a))
siblings_meet a r true e low high =
    let even : r % 2 ≡ 0 = eqb-true (r % 2) 0 e in
    rw e (omega arith, omega arith)
siblings_meet a r false e low high =
    let odd : r % 2 ≡ 0 → ⊥ = eqb-false (r % 2) 0 e in
    rw e (omega arith, omega arith)

pub sibling_on_level : (height level r : ℕ) → level < height → 2 ^ height ≤ r → r < 2 * 2 ^ height → IsOnLevel (height - level) (sibling (r / 2 ^ level))
sibling_on_level height level r within low high =
    let half = height - level - 1 in
    let deep : height - level ≡ half + 1 = omega arith in
    let own = above_leaf height level (height - level) r (omega arith) low high in
    let a : 2 ^ (height - level) ≡ 2 * 2 ^ half = ap (λ (k : ℕ). 2 ^ k) deep ∙ doubled half in
    let b : 2 ^ (height - level + 1) ≡ 2 * 2 ^ (height - level) = doubled (height - level) in
    let both = siblings_meet (2 ^ half) (r / 2 ^ level) (r / 2 ^ level % 2 == 0) refl (omega (arith, own.low)) (omega (arith, own.high)) in
    record { low = omega (arith, both.0); high = omega (arith, both.1) }

-- a key has the sibling
pub sibling_kept : (height : ℕ) (id : List ℕ) (leaf : ℕ → List ℕ) (nodes : List (List ℕ)) (level r : ℕ) → HasNodes height id leaf nodes
    → level < height → 2 ^ height ≤ r → r < 2 * 2 ^ height
    → slice_index_or nodes (sibling (r / 2 ^ level)) [] ≡ tree_node id leaf level (sibling (r / 2 ^ level))
sibling_kept height id leaf nodes level r kept within low high =
    let there = sibling_on_level height level r within low high in
    kept.node level (height - level) (sibling (r / 2 ^ level)) (omega arith) there

-- what is read at the number of the sibling
pub sibling_read : (height : ℕ) (id : List ℕ) (leaf : ℕ → List ℕ) (nodes : List (List ℕ)) (level r number place : ℕ) (x : List ℕ)
    → HasNodes height id leaf nodes
    → level < height → 2 ^ height ≤ r → r < 2 * 2 ^ height → number ≡ r / 2 ^ level → place ≡ sibling number → x ≡ slice_index_or nodes place x
    → x ≡ tree_node id leaf level (sibling (r / 2 ^ level))
sibling_read height id leaf nodes level r number place x kept within low high number_is place_is read =
    let at : place ≡ sibling (r / 2 ^ level) = place_is ∙ ap sibling number_is in
    let there = sibling_on_level height level r within low high in
    let most : 2 ^ (height - level + 1) ≤ 2 ^ (height + 1) = pow_mono (omega arith) in
    let inside : place < length nodes = omega (arith, there.high, kept.count) in
    get_or_read nodes place x inside read [] ∙ ap (λ (k : ℕ). slice_index_or nodes k []) at
    ∙ sibling_kept height id leaf nodes level r kept within low high
