-- What a window sees after a mark, and after many.
use Rattle.std.proofs.Common.{◌≡◌, ◌≤◌, ◌<◌, ℕ, ◌+◌, Bool, true, false, List, [], ◌∷◌, max, refl, sym, ap, ◌∙◌, arith, nat_le}
use Rattle.std.specs.Prelude.{◌==◌, ◌||◌, fold}
use Rattle.std.proofs.lemmas.Bool.Decides.{nat_tests}
use Rattle.sp_rules.proofs.WindowLemmas.{greatest_mark, in_mark}
use Rattle.sp_rules.specs.Window.{greatest, is_in, is_seen, with_mark}
use Rattle.sp_rules.specs.declared.window.TheConstants.{WINDOW}
use Rattle.laws_node.specs.PriorityLaws.{MarkedIsSeen, SeenStaysSeen, WindowSeesItsMarks}

-- ---- tests

or_true : (a : Bool) → (a || true) ≡ true
or_true true = refl
or_true false = refl

or_false : (a : Bool) → (a || false) ≡ a
or_false true = refl
or_false false = refl

same_number : (x : ℕ) → (x == x) ≡ true
same_number x = grind (arith, nat_tests)

turned : (x y : ℕ) → (x == y) ≡ (y == x)
turned x y = grind (arith, nat_tests)

at_most : (m n : ℕ) → nat_le m n ≡ true → m ≤ n
at_most m n e = grind (arith, nat_tests)

not_at_most : (m n : ℕ) → nat_le m n ≡ false → n < m
not_at_most m n e = grind (arith, nat_tests)

is_at_most : (m n : ℕ) → m ≤ n → nat_le m n ≡ true
is_at_most m n e = grind (arith, nat_tests)

-- ---- one mark

-- the window has what was marked, as far as it reaches
in_with_mark : (ms : List ℕ) (q x : ℕ) → max q (greatest ms) < x + WINDOW → is_in x (with_mark ms q) ≡ ((x == q) || is_in x ms)
in_with_mark ms q x near =
    let here : nat_le (x + WINDOW) (max q (greatest ms)) ≡ false = grind (arith, nat_tests) in
    in_mark ms q x ∙ rw here (ap (λ (t : Bool). t || is_in x ms) (turned q x))

-- what is seen after a mark
pub seen_with_mark : (ms : List ℕ) (q x : ℕ) → is_seen (with_mark ms q) x ≡ (((x == q) || is_in x ms) || nat_le (x + WINDOW) (max q (greatest ms)))
seen_with_mark ms q x = rw (greatest_mark ms q) (go (nat_le (x + WINDOW) (max q (greatest ms))) refl)
  where
    go : (t : Bool) → nat_le (x + WINDOW) (max q (greatest ms)) ≡ t → (is_in x (with_mark ms q) || nat_le (x + WINDOW) (max q (greatest ms)))
        ≡ (((x == q) || is_in x ms) || nat_le (x + WINDOW) (max q (greatest ms)))
    go true is = rw is (or_true (is_in x (with_mark ms q)) ∙ sym (or_true ((x == q) || is_in x ms)))
    go false is = ap (λ (b : Bool). b || nat_le (x + WINDOW) (max q (greatest ms))) (in_with_mark ms q x (not_at_most (x + WINDOW) (max q (greatest ms)) is))

pub marked_is_seen : MarkedIsSeen
marked_is_seen ms q = seen_with_mark ms q q ∙ rw (same_number q) refl

pub seen_stays : SeenStaysSeen
seen_stays ms new q seen = seen_with_mark ms new q ∙ go (is_in q ms) (nat_le (q + WINDOW) (greatest ms)) refl refl seen
  where
    go : (a b : Bool) → is_in q ms ≡ a → nat_le (q + WINDOW) (greatest ms) ≡ b → (is_in q ms || nat_le (q + WINDOW) (greatest ms)) ≡ true →
        (((q == new) || is_in q ms) || nat_le (q + WINDOW) (max new (greatest ms))) ≡ true
    go true b has far e = rw (has, or_true (q == new)) refl
    go false true has far e =
        let further : nat_le (q + WINDOW) (max new (greatest ms)) ≡ true = is_at_most (q + WINDOW) (max new (greatest ms)) (omega (
          arith,
          at_most (q + WINDOW) (greatest ms) far,
        )) in
        rw further (or_true ((q == new) || is_in q ms))
    go false false has far e = absurd (let no : false ≡ true = rw (has, far) at e in cc)

-- ---- many marks

after_all : (ms marks : List ℕ) (q : ℕ) → is_seen (fold with_mark ms marks) q ≡ ((is_in q ms || is_in q marks) || nat_le (q + WINDOW)
    (max (greatest ms) (greatest marks)))
after_all ms [] q =
    let n : max (greatest ms) 0 ≡ greatest ms = omega arith in
    rw (or_false (is_in q ms), n) refl
after_all ms (m ∷ marks) q = after_all (with_mark ms m) marks q ∙ rw (greatest_mark ms m) (go (nat_le (q + WINDOW) (max (max m (greatest ms))
    (greatest marks))) refl)
  where
    same : max (max m (greatest ms)) (greatest marks) ≡ max (greatest ms) (max m (greatest marks))
    same = omega arith

    moved : (a b c : Bool) → ((a || b) || c) ≡ (b || (a || c))
    moved true true c = refl
    moved true false c = refl
    moved false true c = refl
    moved false false c = refl

    go : (t : Bool) → nat_le (q + WINDOW) (max (max m (greatest ms)) (greatest marks)) ≡ t →
        ((is_in q (with_mark ms m) || is_in q marks) || nat_le (q + WINDOW) (max (max m (greatest ms)) (greatest marks)))
        ≡ ((is_in q ms || ((m == q) || is_in q marks)) || nat_le (q + WINDOW) (max (greatest ms) (max m (greatest marks))))
    go true is = rw (← same, is) (or_true (is_in q (with_mark ms m) || is_in q marks) ∙ sym (or_true (is_in q ms || ((m == q) || is_in q marks))))
    go false is =
        let near : max m (greatest ms) < q + WINDOW = omega (arith, not_at_most (q + WINDOW) (max (max m (greatest ms)) (greatest marks)) is) in
        let now : is_in q (with_mark ms m) ≡ ((m == q) || is_in q ms) = in_with_mark ms m q near ∙ ap (λ (b : Bool). b || is_in q ms) (turned q m) in
        rw (← same) (ap (λ (b : Bool). b || nat_le (q + WINDOW) (max (max m (greatest ms)) (greatest marks)))
        (ap (λ (b : Bool). b || is_in q marks) now ∙ moved (m == q) (is_in q ms) (is_in q marks)))

pub window_sees : WindowSeesItsMarks
window_sees marks q =
    let n : max 0 (greatest marks) ≡ greatest marks = omega arith in
    after_all [] marks q ∙ rw n refl
