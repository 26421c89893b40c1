-- An open slot, and what becomes of it where the other one is torn.
use Rattle.std.proofs.Common.{◌≡◌, ℕ, zero, suc, ◌+◌, ◌-◌, ◌<◌, ◌≤◌, ◌⊎◌, inl, inr, min, Bool, true, false, List, [], ◌∷◌, length, take, drop, Option, None}
use Rattle.std.proofs.Common.{Some, refl, sym, ap, ◌∙◌, arith}
use Rattle.std.specs.Prelude.{◌==◌, ◌&&◌, if◌then◌else◌, slice_get}
use Rattle.std.proofs.Common.{length-drop}
use Rattle.std.proofs.lemmas.List.{length-take}
use Rattle.std.proofs.lemmas.Bool.{eqb-true}
use Rattle.std.proofs.lemmas.Option.{none-some}
use Rattle.sp_keystate.specs.declared.numbers.Numbers.{Numbers}
use Rattle.sp_keystate.specs.Slots.{behind, is_gate, is_open, numbers_in, opened_at}
use Rattle.sp_keystate.specs.Changes.{IsTorn}
use Rattle.sp_keystate.specs.Soundness.{IsFine}
use Rattle.sp_keystate.proofs.Torn.{IsOut, torn_same}

-- ---- a slot

and_both : (a b : Bool) → a && b ≡ true → (a ≡ true) × (b ≡ true)
and_both true b is = (refl, is)
and_both false true is = (is, refl)
and_both false false is = (is, is)

pub length_behind : (f : List ℕ) (at : ℕ) → length (behind f at) ≡ min 24 (length f - (at + 1))
length_behind f at = length-take 24 (drop (at + 1) f) ∙ ap (min 24) (length-drop (at + 1) f)

-- an open slot has all its bytes
pub opened_size : (f : List ℕ) (at : ℕ) (s : Numbers) → opened_at f at ≡ Some s → at + 25 ≤ length f
opened_size f at s is = go (is_open f at) refl is
  where
    go : (t : Bool) → is_open f at ≡ t → (if t then Some (numbers_in (behind f at)) else None) ≡ Some s → at + 25 ≤ length f
    go true holds is =
        let full = eqb-true (length (behind f at)) 24 (and_both (is_gate (slice_get f at)) (length (behind f at) == 24) holds).1 in
        let long = length_behind f at in
        omega (arith, full, long)
    go false shut is = absurd (none-some s is)

take_same : (n : ℕ) (xs ys : List ℕ) → ((i : ℕ) → i < n → slice_get xs i ≡ slice_get ys i) → take n xs ≡ take n ys
take_same zero xs ys same = refl
take_same (suc n) [] [] same = refl
take_same (suc n) [] (y ∷ ys) same = absurd (none-some y (same 0 (omega arith)))
take_same (suc n) (x ∷ xs) [] same = absurd (none-some x (sym (same 0 (omega arith))))
take_same (suc n) (x ∷ xs) (y ∷ ys) same =
    let first : x ≡ y = ap (λ (o : Option ℕ). elim o [ None ↦ x | Some z ↦ z ]) (same 0 (omega arith)) in
    let rest = take_same n xs ys (λ i h. same (suc i) (omega (arith, h))) in
    rw (first, rest) refl

pub get_drop : (n : ℕ) (xs : List ℕ) (i : ℕ) → slice_get (drop n xs) i ≡ slice_get xs (n + i)
get_drop zero xs i = let e : i ≡ 0 + i = omega arith in ap (slice_get xs) e
get_drop (suc n) [] i = refl
get_drop (suc n) (x ∷ xs) i = let e : suc (n + i) ≡ suc n + i = omega arith in get_drop n xs i ∙ ap (slice_get (x ∷ xs)) e

-- a body of the same bytes
pub behind_same : (f c : List ℕ) (at : ℕ) → ((i : ℕ) → at + 1 ≤ i → i < at + 25 → slice_get c i ≡ slice_get f i) → behind c at ≡ behind f at
behind_same f c at same =
    take_same 24 (drop (at + 1) c) (drop (at + 1) f)
    (λ i h. get_drop (at + 1) c i ∙ same (at + 1 + i) (omega arith) (omega (arith, h)) ∙ sym (get_drop (at + 1) f i))

pub if_same : {X : Type 0} (a b : Bool) (x y : X) → a ≡ b → x ≡ y → (let o : Option X = if a then Some x else None in o ≡ (if b then Some y else None))
if_same a b x y is same = rw (is, same) refl

pub opened_by : (f c : List ℕ) (at : ℕ) → slice_get c at ≡ slice_get f at → behind c at ≡ behind f at → opened_at c at ≡ opened_at f at
opened_by f c at gate body =
    if_same (is_open c at) (is_open f at) (numbers_in (behind c at)) (numbers_in (behind f at)) (rw (gate, body) refl) (ap numbers_in body)

-- ---- a torn slot, and one beside it

abbrev pub IsApart : ℕ → ℕ → Type 0
IsApart a b = (a + 25 ≤ b) ⊎ (b + 25 ≤ a)

beside : (a b at n i : ℕ) → IsApart a b → b ≤ at → at + n ≤ b + 25 → a ≤ i → i < a + 25 → IsOut at n i
beside a b at n i (inl h) from to low high = inl (omega (arith, h, from, high))
beside a b at n i (inr h) from to low high = inr (omega (arith, h, to, low))

-- the slot beside stays open
pub stays_open : (f c bs : List ℕ) (a b at : ℕ) (s : Numbers) → IsApart a b → b ≤ at → at + length bs ≤ b + 25 → opened_at f a ≡ Some s → IsTorn f at bs c
    → opened_at c a ≡ Some s
stays_open f c bs a b at s apart from to is torn =
    let size = opened_size f a s is in
    let same : (i : ℕ) → a ≤ i → i < a + 25 → slice_get c i ≡ slice_get f i =
    λ i low high. torn_same f at bs c i torn (beside a b at (length bs) i apart from to low high) (omega (arith, size, high)) in
    opened_by f c a (same a (omega arith) (omega arith)) (behind_same f c a (λ i low high. same i (omega (arith, low)) high)) ∙ is

-- what is open there does no harm
abbrev pub FineOpt : Numbers → Option Numbers → Type 0
FineOpt s None = Unit {0}
FineOpt s (Some t) = IsFine s t

fine_if : (s t : Numbers) (b : Bool) → (b ≡ true → IsFine s t) → FineOpt s (if b then Some t else None)
fine_if s t true f = f refl
fine_if s t false f = tt

pub fine_open : (s : Numbers) (c : List ℕ) (at : ℕ) → (is_gate (slice_get c at) ≡ true → length (behind c at) ≡ 24 → IsFine s (numbers_in (behind c at)))
    → FineOpt s (opened_at c at)
fine_open s c at f =
    fine_if s (numbers_in (behind c at)) (is_open c at)
    (λ yes. let both = and_both (is_gate (slice_get c at)) (length (behind c at) == 24) yes in f both.0 (eqb-true (length (behind c at)) 24 both.1))

-- a closed gate
pub closed_fine : (s : Numbers) (c : List ℕ) (at : ℕ) → slice_get c at ≡ Some 0 → FineOpt s (opened_at c at)
closed_fine s c at is = fine_open s c at (λ gate full. absurd (not_gate (ap is_gate is) gate))
  where
    not_gate : is_gate (slice_get c at) ≡ false → is_gate (slice_get c at) ≡ true → ⊥
    not_gate shut gate = cc

-- ---- a slot that is read alone

get_first : (xs : List ℕ) → slice_get (take 25 xs) 0 ≡ slice_get xs 0
get_first [] = refl
get_first (x ∷ xs) = refl

behind_first : (xs : List ℕ) → behind (take 25 xs) 0 ≡ behind xs 0
behind_first [] = refl
behind_first (x ∷ xs) = take_take 24 xs
  where
    take_take : (n : ℕ) (ys : List ℕ) → take n (take n ys) ≡ take n ys
    take_take zero ys = refl
    take_take (suc n) [] = refl
    take_take (suc n) (y ∷ ys) = ap (λ (l : List ℕ). y ∷ l) (take_take n ys)

-- 25 bytes from its beginning on tell the slot
pub opened_piece : (f : List ℕ) (at : ℕ) → opened_at (take 25 (drop at f)) 0 ≡ opened_at f at
opened_piece f at =
    opened_by (drop at f) (take 25 (drop at f)) 0 (get_first (drop at f)) (behind_first (drop at f)) ∙ moved
  where
    start : at + 0 ≡ at
    start = omega arith

    gate : slice_get (drop at f) 0 ≡ slice_get f at
    gate = get_drop at f 0 ∙ ap (slice_get f) start

    body : behind (drop at f) 0 ≡ behind f at
    body = take_same 24 (drop 1 (drop at f)) (drop (at + 1) f)
        (λ i h. get_drop 1 (drop at f) i ∙ get_drop at f (1 + i) ∙ ap (slice_get f) (omega arith) ∙ sym (get_drop (at + 1) f i))

    moved : opened_at (drop at f) 0 ≡ opened_at f at
    moved = if_same (is_open (drop at f) 0) (is_open f at) (numbers_in (behind (drop at f) 0)) (numbers_in (behind f at)) (rw (gate, body) refl)
        (ap numbers_in body)

pub open_numbers : (f : List ℕ) (at : ℕ) (s : Numbers) → opened_at f at ≡ Some s → numbers_in (behind f at) ≡ s
open_numbers f at s is = go (is_open f at) refl is
  where
    go : (t : Bool) → is_open f at ≡ t → (if t then Some (numbers_in (behind f at)) else None) ≡ Some s → numbers_in (behind f at) ≡ s
    go true holds e = ap (λ (o : Option Numbers). elim o [ None ↦ s | Some x ↦ x ]) e
    go false shut e = absurd (none-some s e)
