-- One step of a chain: the message of 55 bytes with a new number, and then with a new element.
use Rattle.std.proofs.Common.{◌≡◌, ℕ, suc, ◌+◌, ◌-◌, ◌≤◌, List, [], ◌∷◌, ◌++◌, length, take, drop, set, refl, sym, ◌∙◌, ap, arith}
use Rattle.std.proofs.lemmas.List.{append-nil, append_assoc, drop-drop, drop_at, drop_all, length-append, length-set, length-take-le, set_split, take_at}
use Rattle.std.proofs.lemmas.Slice.{take-put_mid_below}
use borrow.Rule.Slice.PartMut.{put_mid}
use Rattle.sp_ots.specs.Strings.{u8str, u16str, u32str}
use Rattle.sp_ots.specs.Chains.{next_element, stepped, chain_end}

-- no step leaves the element as it is
pub chain_none : (id : List ℕ) (q i from : ℕ) (element : List ℕ) → chain_end id q i from from element ≡ element
unfolding stepped
chain_none id q i from element = let none : from - from ≡ 0 = omega arith in rw none refl

-- one more step
pub chain_more : (id : List ℕ) (q i from j : ℕ) (element : List ℕ) → from ≤ j
    → chain_end id q i from (j + 1) element ≡ next_element id q i j (chain_end id q i from j element)
unfolding stepped
chain_more id q i from j element later =
    let count : j + 1 - from ≡ suc (j - from) = omega arith in
    let place : from + (j - from) ≡ j = omega arith in
    rw (count, place) refl

-- as many steps, counted otherwise
pub chain_same : (id : List ℕ) (q i from j to : ℕ) (element : List ℕ) → j - from ≡ to - from
    → chain_end id q i from j element ≡ chain_end id q i from to element
chain_same id q i from j to element e = ap (λ (count : ℕ). stepped id q i from count element) e

-- the message with the step's number in its place
pub numbered : (message front element : List ℕ) (j : ℕ) → length message ≡ 55 → take 22 message ≡ front → drop 23 message ≡ element
    → set message 22 j ≡ front ++ u8str j ++ element
numbered message front element j long before behind =
    set_split message 22 j (omega arith) ∙ rw (before, behind) (sym (append_assoc front (j ∷ []) element))

-- the same message with the next element in the place of the last one
pub record Replaced (message next after : List ℕ) : Type 0 where
  pub long : length after ≡ 55
  pub front : take 22 after ≡ take 22 message
  pub element : drop 23 after ≡ next

pub replaced : (message next : List ℕ) → length message ≡ 55 → length next ≡ 32 → Replaced message next (put_mid 23 32 message next)
replaced message next long long_next =
    let front = take 23 message in
    let long_front : length front ≡ 23 = length-take-le 23 message (omega arith) in
    let none : drop 32 (drop 23 message) ≡ [] = drop-drop 32 23 message ∙ drop_all 55 message (omega arith) in
    let whole : put_mid 23 32 message next ≡ front ++ next = rw none (ap (λ (xs : List ℕ). front ++ xs) (append-nil next)) in
    record {
      long = rw whole (length-append front next ∙ omega arith);
      front = take-put_mid_below 23 32 message next 22 (omega arith) (omega arith);
      element = rw whole (drop_at front next 23 long_front);
    }

-- the first message of a chain
pub begun : (id : List ℕ) (q i from : ℕ) (element message : List ℕ) → length id ≡ 16 → message ≡ id ++ u32str q ++ u16str i ++ u8str from ++ element
    → (take 22 message ≡ id ++ u32str q ++ u16str i) × (drop 23 message ≡ element)
unfolding u32str u16str
begun id q i from element message long e =
    let front = id ++ u32str q ++ u16str i in
    let long_front : length front ≡ 22 = omega (arith, length-append (id ++ u32str q) (u16str i), length-append id (u32str q)) in
    let long_more : length (front ++ u8str from) ≡ 23 = length-append front (u8str from) ∙ omega arith in (
      ap (take 22) (e ∙ append_assoc front (u8str from) element) ∙ take_at front (u8str from ++ element) 22 long_front,
      ap (drop 23) e ∙ drop_at (front ++ u8str from) element 23 long_more,
    )

-- the same message with another step's number and element
pub renewed : (message : List ℕ) (step : ℕ) (element : List ℕ) → length message ≡ 55 → length element ≡ 32
    → put_mid 23 32 (set message 22 step) element ≡ take 22 message ++ u8str step ++ element
renewed message step element long long_element =
    let front = take 22 message in
    let split : set message 22 step ≡ (front ++ u8str step) ++ drop 23 message = numbered message front (drop 23 message) step long refl refl in
    let long_front : length (front ++ u8str step) ≡ 23 = length-append front (u8str step) ∙ omega (arith, length-take-le 22 message (omega arith)) in
    let kept : take 23 (set message 22 step) ≡ front ++ u8str step = ap (take 23) split ∙ take_at (front ++ u8str step) (drop 23 message) 23 long_front in
    let none : drop 32 (drop 23 (set message 22 step)) ≡ [] =
    drop-drop 32 23 (set message 22 step) ∙ drop_all 55 (set message 22 step) (omega (arith, length-set message 22 step)) in
    rw (kept, none) (ap (λ (xs : List ℕ). (front ++ u8str step) ++ xs) (append-nil element))
