-- A ring's marks as a window: what it sees, and what one mark more leaves.
use Rattle.std.proofs.Common.{◌≡◌, ◌≤◌, ◌<◌, ℕ, ◌+◌, ◌-◌, ◌%◌, Bool, true, false, List, [], length, replicate, max, refl, sym, ap, subst, ◌∙◌, arith, inl, inr}
use Rattle.std.proofs.Common.{nat_le, get_or-set_same, get_or-set_other}
use Rattle.std.specs.Prelude.{◌==◌, ◌⊎◌, ◌&&◌, ◌||◌, not, slice_set}
use Rattle.std.proofs.lemmas.Bool.Decides.{nat_tests}
use Rattle.std.proofs.lemmas.List.{get_or-replicate, length-set, length-replicate}
use Rattle.std.proofs.lemmas.Bool.{ne_eqb}
use Rattle.sp_rules.proofs.WindowLemmas.{Ascends, filter_ascends, in_mark, put_ascends, same_numbers}
use Rattle.sp_rules.specs.Window.{greatest, is_in, is_past, is_seen, put_in, with_mark}
use Rattle.sp_rules.specs.declared.window.TheConstants.{WINDOW}
use Rattle.sp_dedup.specs.Ring.{IsRing, held_for, marked_in}
use Rattle.sp_dedup.proofs.RangeLemmas.{greatest_of_last, in_last, none_pass, not_in_last, range_ascends}

-- the greatest mark
pub greatest_in : (top : ℕ) (ring : List ℕ) → IsRing top ring → greatest (marked_in top ring) ≡ top
greatest_in top ring sound = go sound.greatest
  where
    go : (held_for ring top ≡ top) ⊎ ((top ≡ 0) × ((x : ℕ) → held_for ring x ≡ x → ⊥)) → greatest (marked_in top ring) ≡ top
    go (inl held) = greatest_of_last (λ x. held_for ring x == x) top (grind (arith, nat_tests))
    go (inr none) = ap greatest (none_pass (λ x. held_for ring x == x) (top + 1 - WINDOW) (top + 1 - (top + 1 - WINDOW))
        (λ x. fails_at (held_for ring x == x) x refl)) ∙ sym none.0
      where
        fails_at : (t : Bool) (x : ℕ) → (held_for ring x == x) ≡ t → (held_for ring x == x) ≡ false
        fails_at false x is = is
        fails_at true x is = absurd (none.1 x (grind (arith, nat_tests)))

-- a number is in the window where its place holds it, and the window reaches so far
pub in_marked : (top : ℕ) (ring : List ℕ) (x : ℕ) → x ≤ top → top < x + WINDOW → is_in x (marked_in top ring) ≡ (held_for ring x == x)
in_marked top ring x low high = in_last (λ n. held_for ring n == n) top x low high

pub not_in_marked : (top : ℕ) (ring : List ℕ) (x : ℕ) → (x ≤ top → top < x + WINDOW → ⊥) → is_in x (marked_in top ring) ≡ false
not_in_marked top ring x out = not_in_last (λ n. held_for ring n == n) top x out

or_true : (a : Bool) → (a || true) ≡ true
or_true true = refl
or_true false = refl

or_false : (a : Bool) → (a || false) ≡ a
or_false true = refl
or_false false = refl

-- a number was seen where its place holds it, or the greatest mark is far above it
pub seen_by_place : (top : ℕ) (ring : List ℕ) (q : ℕ) → IsRing top ring → is_seen (marked_in top ring) q ≡ ((held_for ring q == q) || nat_le (q + WINDOW) top)
seen_by_place top ring q sound = rw (greatest_in top ring sound) (go (nat_le (q + WINDOW) top) refl)
  where
    near : (t : Bool) → nat_le q top ≡ t → top < q + WINDOW → is_in q (marked_in top ring) ≡ (held_for ring q == q)
    near true is far = in_marked top ring q (grind (arith, nat_tests)) far
    near false is far =
        let above : top < q = grind (arith, nat_tests) in
        not_in_marked top ring q (λ low high. omega (arith, above, low)) ∙ sym (not_held (held_for ring q == q) refl)
      where
        not_held : (t : Bool) → (held_for ring q == q) ≡ t → (held_for ring q == q) ≡ false
        not_held false e = e
        not_held true e =
            let high : top < q = grind (arith, nat_tests) in
            let low : q ≤ top = sound.below q (grind (arith, nat_tests)) in
            absurd (omega (arith, low, high))

    go : (t : Bool) → nat_le (q + WINDOW) top ≡ t → (is_in q (marked_in top ring) || nat_le (q + WINDOW) top)
        ≡ ((held_for ring q == q) || nat_le (q + WINDOW) top)
    go true is = rw is (or_true (is_in q (marked_in top ring)) ∙ sym (or_true (held_for ring q == q)))
    go false is = rw is (ap (λ b. b || false) (near (nat_le q top) refl (grind (arith, nat_tests))))

-- what it is that a number wasn't seen
record IsUnseen (top : ℕ) (ring : List ℕ) (q : ℕ) : Type 0 where
  near : top < q + WINDOW
  not_held : held_for ring q ≡ q → ⊥

unseen : (top : ℕ) (ring : List ℕ) (q : ℕ) → IsRing top ring → is_seen (marked_in top ring) q ≡ false → IsUnseen top ring q
unseen top ring q sound not = go (held_for ring q == q) (nat_le (q + WINDOW) top) refl refl (sym (seen_by_place top ring q sound) ∙ not)
  where
    go : (a b : Bool) → (held_for ring q == q) ≡ a → nat_le (q + WINDOW) top ≡ b → ((held_for ring q == q) || nat_le (q + WINDOW) top) ≡ false →
        IsUnseen top ring q
    go true b is is_far e = absurd (let no : true ≡ false = rw is at e in cc)
    go false true is is_far e = absurd (let no : true ≡ false = rw (is, is_far) at e in cc)
    go false false is is_far e = record { near = grind (arith, nat_tests); not_held = λ h. grind (arith, nat_tests) }

-- ---- a place is written

-- of numbers that are near each other, one alone has this remainder
same_place : (x q : ℕ) → x % WINDOW ≡ q % WINDOW → x < q + WINDOW → q < x + WINDOW → x ≡ q
same_place x q same low high = omega arith

held_same : (ring : List ℕ) (q x : ℕ) → length ring ≡ WINDOW → x % WINDOW ≡ q % WINDOW → held_for (slice_set ring (q % WINDOW) q) x ≡ q
held_same ring q x places same =
    let inside : q % WINDOW < length ring = omega (arith, places) in
    rw same (get_or-set_same ring (q % WINDOW) q 0 inside)

held_other : (ring : List ℕ) (q x : ℕ) → (x % WINDOW ≡ q % WINDOW → ⊥) → held_for (slice_set ring (q % WINDOW) q) x ≡ held_for ring x
held_other ring q x apart = get_or-set_other ring (q % WINDOW) (x % WINDOW) q 0 apart

by_remainder : {P : Type 0} (x q : ℕ) → (x % WINDOW ≡ q % WINDOW → P) → ((x % WINDOW ≡ q % WINDOW → ⊥) → P) → P
by_remainder {P} x q same other = go (x % WINDOW == q % WINDOW) refl
  where
    go : (t : Bool) → (x % WINDOW == q % WINDOW) ≡ t → P
    go true is = same (grind (arith, nat_tests))
    go false is = other (λ e. grind (arith, nat_tests))

-- a ring stays one where a number that wasn't seen is marked
pub stays_ring : (top : ℕ) (ring : List ℕ) (q : ℕ) → IsRing top ring → is_seen (marked_in top ring) q ≡ false → IsRing (max top q)
    (slice_set ring (q % WINDOW) q)
stays_ring top ring q sound not = record {
  places = length-set ring (q % WINDOW) q ∙ sound.places;
  below = λ x holds.
      by_remainder x q
      (λ same. let is : q ≡ x = sym (held_same ring q x sound.places same) ∙ holds in omega (arith, is))
      (λ apart. let low : x ≤ top = sound.below x (sym (held_other ring q x apart) ∙ holds) in omega (arith, low));
  greatest = inl (greatest_held (nat_le top q) refl);
}
  where
    fresh : IsUnseen top ring q
    fresh = unseen top ring q sound not

    held_before : (held_for ring top ≡ top) ⊎ ((top ≡ 0) × ((x : ℕ) → held_for ring x ≡ x → ⊥)) → q < top → held_for ring top ≡ top
    held_before (inl held) below = held
    held_before (inr none) below = absurd (omega (arith, none.0))

    greatest_held : (t : Bool) → nat_le top q ≡ t → held_for (slice_set ring (q % WINDOW) q) (max top q) ≡ max top q
    greatest_held true is =
        let new : max top q ≡ q = grind (arith, nat_tests) in
        ap (held_for (slice_set ring (q % WINDOW) q)) new ∙ held_same ring q q sound.places refl ∙ sym new
    greatest_held false is =
        let below : q < top = grind (arith, nat_tests) in
        let old : max top q ≡ top = omega (arith, below) in
        let near : top < q + WINDOW = fresh.near in
        let apart : top % WINDOW ≡ q % WINDOW → ⊥ = λ same. omega (arith, same_place top q same near (omega (arith, below)), below) in
        ap (held_for (slice_set ring (q % WINDOW) q)) old ∙ held_other ring q top apart ∙ held_before sound.greatest below ∙ sym old

-- the marks ascend
marked_ascend : (top : ℕ) (ring : List ℕ) → Ascends (marked_in top ring)
marked_ascend top ring = range_ascends (λ x. held_for ring x == x) (top + 1 - WINDOW) (top + 1 - (top + 1 - WINDOW))

mark_ascends : (top : ℕ) (ring : List ℕ) (q : ℕ) → Ascends (with_mark (marked_in top ring) q)
mark_ascends top ring q =
    filter_ascends (λ x. not (is_past (max q (greatest (marked_in top ring))) x)) (put_in q (marked_in top ring))
    (put_ascends q (marked_in top ring) (marked_ascend top ring))

-- which numbers are marked then
in_both : (top : ℕ) (ring : List ℕ) (q x : ℕ) → IsRing top ring
    → is_in x (with_mark (marked_in top ring) q) ≡ (not (is_past (max q top) x) && ((q == x) || is_in x (marked_in top ring)))
in_both top ring q x sound =
    in_mark (marked_in top ring) q x
    ∙ ap (λ (n : ℕ). not (is_past (max q n) x) && ((q == x) || is_in x (marked_in top ring))) (greatest_in top ring sound)

turned : (x q : ℕ) → (x == q) ≡ (q == x)
turned x q = grind (arith, nat_tests)

-- a ring up to the greatest has the same numbers, where it has them among the last ones
same_marks : (top : ℕ) (ring : List ℕ) (q last : ℕ) (next : List ℕ) (x : ℕ) → IsRing top ring → last ≡ max q top
    → (x ≤ last → last < x + WINDOW → (held_for next x == x) ≡ ((x == q) || is_in x (marked_in top ring)))
    → is_in x (marked_in last next) ≡ is_in x (with_mark (marked_in top ring) q)
same_marks top ring q last next x sound is alike =
    go (nat_le x last) (is_past last x) refl refl
    ∙ ap (λ (n : ℕ). not (is_past n x) && ((q == x) || is_in x (marked_in top ring))) is ∙ sym (in_both top ring q x sound)
  where
    go : (a b : Bool) → nat_le x last ≡ a → is_past last x ≡ b
        → is_in x (marked_in last next) ≡ (not (is_past last x) && ((q == x) || is_in x (marked_in top ring)))
    go a true low past =
        let far : x + WINDOW ≤ last = grind (arith, nat_tests) in
        rw past (not_in_marked last next x (λ under near. omega (arith, far, near)))
    go false false low past =
        let above : last < x = grind (arith, nat_tests) in
        let other : (q == x) ≡ false = ne_eqb q x (λ same. omega (arith, same, above, is)) in
        let out : is_in x (marked_in top ring) ≡ false = not_in_marked top ring x (λ under near. omega (arith, under, above, is)) in
        rw (past, other, out) (not_in_marked last next x (λ under near. omega (arith, under, above)))
    go true false low past =
        let under : x ≤ last = grind (arith, nat_tests) in
        let near : last < x + WINDOW = grind (arith, nat_tests) in
        rw past (in_marked last next x under near ∙ alike under near ∙ ap (λ (t : Bool). t || is_in x (marked_in top ring)) (turned x q))

-- the marks then are those of the window with that number
pub marked_so : (top : ℕ) (ring : List ℕ) (q : ℕ) → IsRing top ring → is_seen (marked_in top ring) q ≡ false → marked_in (max top q)
    (slice_set ring (q % WINDOW) q) ≡ with_mark (marked_in top ring) q
marked_so top ring q sound not =
    same_numbers (marked_in (max top q) (slice_set ring (q % WINDOW) q)) (with_mark (marked_in top ring) q)
    (marked_ascend (max top q) (slice_set ring (q % WINDOW) q)) (mark_ascends top ring q)
    (λ x. same_marks top ring q (max top q) (slice_set ring (q % WINDOW) q) x sound (omega arith)
    (λ under near. alike x (omega (arith, under)) (omega (arith, near))))
  where
    fresh : IsUnseen top ring q
    fresh = unseen top ring q sound not

    old : (x : ℕ) → (x % WINDOW ≡ q % WINDOW → ⊥) → x ≤ max q top → max q top < x + WINDOW → (t : Bool) → nat_le x top ≡ t →
        (held_for (slice_set ring (q % WINDOW) q) x == x) ≡ ((x == q) || is_in x (marked_in top ring))
    old x apart low high true is =
        let other : (x == q) ≡ false = go (x == q) refl in
        rw (held_other ring q x apart, other) (sym (in_marked top ring x (grind (arith, nat_tests)) (omega arith)))
      where
        go : (t : Bool) → (x == q) ≡ t → (x == q) ≡ false
        go false e = e
        go true e = absurd (apart (ap (λ n. n % WINDOW) (let same : x ≡ q = grind (arith, nat_tests) in same)))
    old x apart low high false is =
        let above : top < x = grind (arith, nat_tests) in
        let other : (x == q) ≡ false = go (x == q) refl in
        let out : is_in x (marked_in top ring) ≡ false = not_in_marked top ring x (λ under near. omega (arith, above, under)) in
        rw (held_other ring q x apart, other, out) (not_held (held_for ring x == x) refl above)
      where
        go : (t : Bool) → (x == q) ≡ t → (x == q) ≡ false
        go false e = e
        go true e = absurd (apart (ap (λ n. n % WINDOW) (let same : x ≡ q = grind (arith, nat_tests) in same)))

        not_held : (t : Bool) → (held_for ring x == x) ≡ t → top < x → (held_for ring x == x) ≡ false
        not_held false e above = e
        not_held true e above =
            let under : x ≤ top = sound.below x (grind (arith, nat_tests)) in
            absurd (omega (arith, under, above))

    alike : (x : ℕ) → x ≤ max q top → max q top < x + WINDOW → (held_for (slice_set ring (q % WINDOW) q) x == x) ≡ ((x == q) || is_in x (marked_in top ring))
    alike x low high =
        by_remainder x q
        (λ same.
        let near : top < q + WINDOW = fresh.near in
        let is : x ≡ q = same_place x q same (omega arith) (omega arith) in
        let yes : (x == q) ≡ true = grind (arith, nat_tests) in
        let held : (q == x) ≡ true = grind (arith, nat_tests) in
        rw (held_same ring q x sound.places same, yes) held)
        (λ apart. old x apart low high (nat_le x top) refl)

-- a number that was seen leaves the window as it is
pub marked_again : (top : ℕ) (ring : List ℕ) (q : ℕ) → IsRing top ring → is_seen (marked_in top ring) q ≡ true → marked_in top ring
    ≡ with_mark (marked_in top ring) q
marked_again top ring q sound seen =
    let under : q ≤ top = low (held_for ring q == q) (nat_le (q + WINDOW) top) refl refl by_place in
    same_numbers (marked_in top ring) (with_mark (marked_in top ring) q) (marked_ascend top ring) (mark_ascends top ring q)
    (λ x. same_marks top ring q top ring x sound (omega (arith, under)) (λ below near. alike x below near (x == q) refl))
  where
    by_place : ((held_for ring q == q) || nat_le (q + WINDOW) top) ≡ true
    by_place = sym (seen_by_place top ring q sound) ∙ seen

    low : (a b : Bool) → (held_for ring q == q) ≡ a → nat_le (q + WINDOW) top ≡ b → ((held_for ring q == q) || nat_le (q + WINDOW) top) ≡ true → q ≤ top
    low true b is is_far e = sound.below q (grind (arith, nat_tests))
    low false true is is_far e = grind (arith, nat_tests)
    low false false is is_far e = absurd (let no : false ≡ true = rw (is, is_far) at e in cc)

    held : (a b : Bool) → (held_for ring q == q) ≡ a → nat_le (q + WINDOW) top ≡ b → ((held_for ring q == q) || nat_le (q + WINDOW) top) ≡ true →
        top < q + WINDOW → (held_for ring q == q) ≡ true
    held true b is is_far e near = is
    held false true is is_far e near = absurd (grind (arith, nat_tests))
    held false false is is_far e near = absurd (let no : false ≡ true = rw (is, is_far) at e in cc)

    alike : (x : ℕ) → x ≤ top → top < x + WINDOW → (t : Bool) → (x == q) ≡ t → (held_for ring x == x) ≡ ((x == q) || is_in x (marked_in top ring))
    alike x under near false is = rw is (sym (in_marked top ring x under near))
    alike x under near true is =
        let same : x ≡ q = grind (arith, nat_tests) in
        rw is (ap (λ n. held_for ring n == n) same ∙ held (held_for ring q == q) (nat_le (q + WINDOW) top) refl refl by_place (omega (arith, near, same)))

-- ---- the first ring

place_0 : (x : ℕ) → x % WINDOW ≡ 0 → held_for (slice_set (replicate WINDOW 0) 0 1) x ≡ 1
place_0 x is = rw is refl

other_place : (x : ℕ) → (x % WINDOW ≡ 0 → ⊥) → held_for (slice_set (replicate WINDOW 0) 0 1) x ≡ 0
other_place x not = get_or-set_other (replicate WINDOW 0) 0 (x % WINDOW) 1 0 not ∙ get_or-replicate {A = ℕ} WINDOW (x % WINDOW) 0 0 (omega arith)

none_held : (x : ℕ) → held_for (slice_set (replicate WINDOW 0) 0 1) x ≡ x → ⊥
none_held x holds = go (x % WINDOW == 0) refl
  where
    go : (t : Bool) → (x % WINDOW == 0) ≡ t → ⊥
    go true is =
        let rest : x % WINDOW ≡ 0 = grind (arith, nat_tests) in
        omega (arith, rest, sym (place_0 x rest) ∙ holds)
    go false is =
        let rest : x % WINDOW ≡ 0 → ⊥ = λ e. grind (arith, nat_tests) in
        let zero_is : 0 ≡ x = sym (other_place x rest) ∙ holds in
        rest (ap (λ n. n % WINDOW) (sym zero_is))

first_sound : IsRing 0 (slice_set (replicate WINDOW 0) 0 1)
first_sound = record {
  places = length-set {A = ℕ} (replicate WINDOW 0) 0 1 ∙ length-replicate {A = ℕ} WINDOW 0;
  below = λ x holds. absurd (none_held x holds);
  greatest = inr (refl, none_held);
}

pub first_is_ring : (ring : List ℕ) → ring ≡ slice_set (replicate WINDOW 0) 0 1 → IsRing 0 ring
first_is_ring ring is = subst (λ (r : List ℕ). IsRing 0 r) (sym is) first_sound

pub first_is_empty : (ring : List ℕ) → ring ≡ slice_set (replicate WINDOW 0) 0 1 → marked_in 0 ring ≡ []
first_is_empty ring is = ap (marked_in 0) is
