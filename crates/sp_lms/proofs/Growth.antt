-- Growing a tree: one leaf more, and the nodes above it that are whole by it.
use Rattle.std.proofs.Common.{◌≡◌, ◌≢◌, ℕ, ◌+◌, ◌-◌, ◌*◌, ◌/◌, ◌%◌, ◌^◌, ◌<◌, ◌≤◌, List, [], length, set, slice_index_or, refl, sym, ◌∙◌, ap, add-zero, add-one}
use Rattle.std.proofs.Common.{arith, inl, inr}
use Rattle.std.proofs.Math.Nat.{div-one, div-div-eq-div-mul, mul-div_cancel}
use Rattle.std.proofs.Math.Pow.{pow-add, pow_mono}
use Rattle.std.proofs.lemmas.Bool.{cases_lt}
use Rattle.std.proofs.lemmas.Nat.{pow_pos, le-div}
use Rattle.std.proofs.lemmas.List.{length-set, get_or-set_same, get_or-set_other}
use Rattle.sp_lms.specs.Trees.{inner_hash, tree_node}
use Rattle.sp_lms.specs.Nodes.{IsOnLevel, HasNodes, HasGrown}
use Rattle.sp_lms.proofs.Ancestors.{half_more}
use Rattle.sp_lms.proofs.Levels.{doubled, above_leaf, deeper, below_on_level}

-- the nodes stand that are above the first `grown` leaves alone, and up to level `top` also those that are whole by the next one
pub record HasGrownUpTo (top grown height : ℕ) (id : List ℕ) (leaf : ℕ → List ℕ) (nodes : List (List ℕ)) : Type 0 where
  pub count : length nodes ≡ 2 ^ (height + 1)
  pub low : (level depth r : ℕ) → level ≤ top → level + depth ≡ height → IsOnLevel depth r → r < (2 ^ height + grown + 1) / 2 ^ level
      → slice_index_or nodes r [] ≡ tree_node id leaf level r
  pub high : (level depth r : ℕ) → top < level → level + depth ≡ height → IsOnLevel depth r → r < (2 ^ height + grown) / 2 ^ level
      → slice_index_or nodes r [] ≡ tree_node id leaf level r

-- before the first leaf nothing stands
pub nothing_grown : (height : ℕ) (id : List ℕ) (leaf : ℕ → List ℕ) (nodes : List (List ℕ)) → length nodes ≡ 2 ^ (height + 1) → HasGrown 0 height id leaf nodes
nothing_grown height id leaf nodes long = record {
  count = long;
  node = λ level depth r sum on before.
      let whole : 2 ^ height + 0 ≡ 2 ^ depth * 2 ^ level = add-zero (2 ^ height) ∙ ap (λ (k : ℕ). 2 ^ k) (omega arith) ∙ pow-add 2 depth level in
      let first : (2 ^ height + 0) / 2 ^ level ≡ 2 ^ depth = ap (λ (n : ℕ). n / 2 ^ level) whole ∙ mul-div_cancel (2 ^ depth) {n = 2 ^ level} (pow_pos level) in
      absurd (omega arith);
}

-- after the last one all stand
pub all_grown : (height : ℕ) (id : List ℕ) (leaf : ℕ → List ℕ) (nodes : List (List ℕ)) → HasGrown (2 ^ height) height id leaf nodes
    → HasNodes height id leaf nodes
all_grown height id leaf nodes grown = record {
  count = grown.count;
  node = λ level depth r sum on.
      let whole : 2 ^ (depth + 1) * 2 ^ level ≡ 2 ^ (height + 1) = sym (pow-add 2 (depth + 1) level) ∙ ap (λ (k : ℕ). 2 ^ k) (omega arith) in
      let most : 2 ^ (depth + 1) ≤ (2 ^ height + 2 ^ height) / 2 ^ level =
      le-div (2 ^ (depth + 1)) (2 ^ height + 2 ^ height) (2 ^ level) (pow_pos level) (omega (arith, whole, doubled height)) in
      grown.node level depth r sum on (omega arith);
}

-- the next leaf stands
pub leaf_grown : (grown height : ℕ) (id : List ℕ) (leaf : ℕ → List ℕ) (nodes : List (List ℕ)) (x : List ℕ) → grown < 2 ^ height
    → HasGrown grown height id leaf nodes → x ≡ leaf (2 ^ height + grown) → HasGrownUpTo 0 grown height id leaf (set nodes (2 ^ height + grown) x)
unfolding tree_node
leaf_grown grown height id leaf nodes x within held here =
    let n = 2 ^ height + grown in
    let place : n < length nodes = omega (arith, held.count, doubled height) in
    record {
      count = length-set nodes n x ∙ held.count;
      low = λ level depth r none sum on before.
          let bottom : level ≡ 0 = omega arith in
          let upto : (n + 1) / 2 ^ level ≡ n + 1 = ap (λ (k : ℕ). (n + 1) / 2 ^ k) bottom ∙ div-one (n + 1) in
          let first : n / 2 ^ level ≡ n = ap (λ (k : ℕ). n / 2 ^ k) bottom ∙ div-one n in
          elim (cases_lt r n) [
            | inl earlier ↦
                let ne : r ≢ n = omega arith in
                get_or-set_other nodes n r x [] ne ∙ held.node level depth r sum on (omega arith)
            | inr last ↦
                let e : n ≡ r = omega arith in
                ap (λ (k : ℕ). slice_index_or (set nodes n x) k []) (sym e) ∙ get_or-set_same nodes n x [] place ∙ here ∙ ap leaf e
                ∙ ap (λ (k : ℕ). tree_node id leaf k r) (sym bottom)
          ];
      high = λ level depth r above sum on before.
          let most : 2 ^ (depth + 1) ≤ 2 ^ height = pow_mono (omega arith) in
          let ne : r ≢ n = omega arith in
          get_or-set_other nodes n r x [] ne ∙ held.node level depth r sum on before;
    }

-- the node that is made of the two below it, the second of which stands last on its level
made_of_two : (top depth grown height r : ℕ) (id : List ℕ) (leaf : ℕ → List ℕ) (nodes : List (List ℕ)) (x : List ℕ) → top + (depth + 1) ≡ height
    → HasGrownUpTo top grown height id leaf nodes → IsOnLevel depth r → 2 * r + 2 ≡ (2 ^ height + grown + 1) / 2 ^ top
    → x ≡ inner_hash id r (slice_index_or nodes (2 * r) []) (slice_index_or nodes (2 * r + 1) []) → x ≡ tree_node id leaf (top + 1) r
unfolding tree_node
made_of_two top depth grown height r id leaf nodes x sum held on last made =
    let below = below_on_level depth r on in
    let left : slice_index_or nodes (2 * r) [] ≡ tree_node id leaf top (2 * r) = held.low top (depth + 1) (2 * r) (omega arith) sum below.0 (omega arith) in
    let right : slice_index_or nodes (2 * r + 1) [] ≡ tree_node id leaf top (2 * r + 1) =
    held.low top (depth + 1) (2 * r + 1) (omega arith) sum below.1 (omega arith) in
    let step : tree_node id leaf (top + 1) r ≡ inner_hash id r (tree_node id leaf top (2 * r)) (tree_node id leaf top (2 * r + 1)) = rw (add-one top) refl in
    made ∙ rw (left, right) (sym step)

-- one level more: where a node is the second of two and stands last, the node above them stands too
pub node_grown : (top grown height r : ℕ) (id : List ℕ) (leaf : ℕ → List ℕ) (nodes : List (List ℕ)) (x : List ℕ) → top < height → grown < 2 ^ height
    → HasGrownUpTo top grown height id leaf nodes → 2 * r + 1 ≡ (2 ^ height + grown) / 2 ^ top → 2 * r + 2 ≡ (2 ^ height + grown + 1) / 2 ^ top
    → x ≡ inner_hash id r (slice_index_or nodes (2 * r) []) (slice_index_or nodes (2 * r + 1) [])
    → HasGrownUpTo (top + 1) grown height id leaf (set nodes r x)
node_grown top grown height r id leaf nodes x inside within held this next made =
    let n = 2 ^ height + grown in
    let own = height - top - 1 in
    let own_is : (2 ^ height + grown) / 2 ^ (top + 1) ≡ r = sym (half_more n top) ∙ omega arith in
    let next_is : (2 ^ height + grown + 1) / 2 ^ (top + 1) ≡ r + 1 = sym (half_more (n + 1) top) ∙ omega arith in
    let on : IsOnLevel own r = rw own_is at (above_leaf height (top + 1) own n (omega arith) (omega arith) (omega arith)) in
    let most : 2 ^ (own + 1) ≤ 2 ^ height = pow_mono (omega arith) in
    let place : r < length nodes = omega (arith, held.count, doubled height, on.high) in
    let value : x ≡ tree_node id leaf (top + 1) r = made_of_two top own grown height r id leaf nodes x (omega arith) held on next made in
    record {
      count = length-set nodes r x ∙ held.count;
      low = λ level depth s upto sum level_is before. elim (cases_lt level (top + 1)) [
        | inl lower ↦
            let ne : s ≢ r = omega (arith, deeper own depth r s on level_is (omega arith)) in
            get_or-set_other nodes r s x [] ne ∙ held.low level depth s (omega arith) sum level_is before
        | inr same ↦
            let here : level ≡ top + 1 = omega arith in
            let bound : s < r + 1 = rw (here, next_is) at before in
            elim (cases_lt s r) [
              | inl earlier ↦
                  let ne : s ≢ r = omega arith in
                  get_or-set_other nodes r s x [] ne ∙ held.high level depth s (omega arith) sum level_is (rw (here, own_is) earlier)
              | inr last ↦
                  let e : r ≡ s = omega arith in
                  ap (λ (k : ℕ). slice_index_or (set nodes r x) k []) (sym e) ∙ get_or-set_same nodes r x [] place ∙ value ∙ ap (tree_node id leaf (top + 1)) e
                  ∙ ap (λ (k : ℕ). tree_node id leaf k s) (sym here)
            ]
      ];
      high = λ level depth s above sum level_is before.
          let ne : s ≢ r = omega (arith, deeper depth own s r level_is on (omega arith)) in
          get_or-set_other nodes r s x [] ne ∙ held.high level depth s (omega arith) sum level_is before;
    }

-- where the last node of a level is the first of two, no node above it is whole by it
same_above : (n top level : ℕ) → (n / 2 ^ top) % 2 ≡ 0 → (n + 1) / 2 ^ top ≡ n / 2 ^ top + 1 → top < level → (n + 1) / 2 ^ level ≡ n / 2 ^ level
same_above n top level even next above =
    let more = level - (top + 1) in
    let split : 2 ^ level ≡ 2 ^ (top + 1) * 2 ^ more = ap (λ (k : ℕ). 2 ^ k) (omega arith) ∙ pow-add 2 (top + 1) more in
    let same : (n + 1) / 2 ^ (top + 1) ≡ n / 2 ^ (top + 1) = sym (half_more (n + 1) top) ∙ omega arith ∙ half_more n top in
    ap (λ (k : ℕ). (n + 1) / k) split ∙ sym (div-div-eq-div-mul (n + 1) (2 ^ (top + 1)) (2 ^ more)) ∙ ap (λ (k : ℕ). k / 2 ^ more) same
    ∙ div-div-eq-div-mul n (2 ^ (top + 1)) (2 ^ more) ∙ ap (λ (k : ℕ). n / k) (sym split)

-- so all stands that the leaf makes whole
pub grown_at_first : (top grown height : ℕ) (id : List ℕ) (leaf : ℕ → List ℕ) (nodes : List (List ℕ)) → HasGrownUpTo top grown height id leaf nodes
    → ((2 ^ height + grown) / 2 ^ top) % 2 ≡ 0 → (2 ^ height + grown + 1) / 2 ^ top ≡ (2 ^ height + grown) / 2 ^ top + 1
    → HasGrown (grown + 1) height id leaf nodes
grown_at_first top grown height id leaf nodes held even next =
    let n = 2 ^ height + grown in
    let sum_is : 2 ^ height + (grown + 1) ≡ 2 ^ height + grown + 1 = omega arith in
    record {
      count = held.count;
      node = λ level depth r sum on before.
          let upto : r < (2 ^ height + grown + 1) / 2 ^ level = rw sum_is at before in
          elim (cases_lt top level) [
            | inl above ↦ held.high level depth r above sum on (rw (same_above n top level even next above) at upto)
            | inr below ↦ held.low level depth r below sum on upto
          ];
    }

-- and at the root
pub grown_at_root : (grown height : ℕ) (id : List ℕ) (leaf : ℕ → List ℕ) (nodes : List (List ℕ)) → HasGrownUpTo height grown height id leaf nodes
    → HasGrown (grown + 1) height id leaf nodes
grown_at_root grown height id leaf nodes held =
    let sum_is : 2 ^ height + (grown + 1) ≡ 2 ^ height + grown + 1 = omega arith in
    record { count = held.count; node = λ level depth r sum on before. held.low level depth r (omega arith) sum on (rw sum_is at before) }
