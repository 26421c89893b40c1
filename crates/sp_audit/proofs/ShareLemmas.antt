-- The tests of an entry that goes mean that it leaves a share.
use Rattle.std.proofs.Common.{◌≡◌, ◌≤◌, ◌<◌, ℕ, zero, suc, ◌+◌, ◌-◌, ◌/◌, Bool, true, false, cond, not, nat_le, nat_lt, List, [], ◌∷◌, ◌++◌, length, filter}
use Rattle.std.proofs.Common.{get_or, take, drop, refl, sym, ap, ap₂, ◌∙◌, inl, inr, arith, length-append}
use Rattle.std.specs.Prelude.{◌==◌, ◌&&◌, ◌||◌, if◌then◌else◌}
use Rattle.std.specs.List.{All, list_all, range_with_len}
use Rattle.std.proofs.Math.Seq.{get_or-append_seam, take-append_seam}
use Rattle.std.proofs.lemmas.Bool.{and_from, and_parts, cases_Bool, eq-eqb, eqb-true, leb-true, le-leb, ltb-true}
use Rattle.std.proofs.lemmas.Bool.Decides.{nat_tests}
use Rattle.std.proofs.lemmas.List.Elements.{All-cons, All-head, All-nil, All-tail, filter-append}
use Rattle.std.proofs.lemmas.List.Sums.{sum_by-cons}
use Rattle.sp_rules.specs.Store.{ids}
use Rattle.sp_runs.specs.Held.{Held, IsShare, count_held, sources_held}
use Rattle.sp_audit.specs.Shares.{is_first, is_lowest, is_lowest_source, is_most, may_go}

-- ---- counts over a range

pub range_push : (a n : ℕ) → range_with_len a (n + 1) ≡ range_with_len a n ++ (a + n) ∷ []
range_push a zero = ap (λ (m : ℕ). m ∷ []) (omega arith)
range_push a (suc n) =
    ap (λ (m : ℕ). range_with_len a m) (later n)
    ∙ ap (λ (xs : List ℕ). a ∷ xs) (range_push (a + 1) n ∙ ap (λ (m : ℕ). range_with_len (a + 1) n ++ m ∷ []) (moved a n))
  where
    later : (n : ℕ) → suc n + 1 ≡ suc (n + 1)
    later n = omega arith

    moved : (a n : ℕ) → a + 1 + n ≡ a + suc n
    moved a n = omega arith

one_test : (p : ℕ → Bool) (m : ℕ) → length (filter p (m ∷ [])) ≡ (if p m then 1 else 0)
one_test p m = elim (cases_Bool (p m)) [
  | inl is ↦ rw is refl
  | inr is ↦ rw is refl
]

pub count_more : (p : ℕ → Bool) (n : ℕ) → length (filter p (range_with_len 0 (n + 1))) ≡ length (filter p (range_with_len 0 n)) + (if p n then 1 else 0)
count_more p n =
    ap (λ (xs : List ℕ). length (filter p xs)) (range_push 0 n)
    ∙ ap length (filter-append p (range_with_len 0 n) ((0 + n) ∷ []))
    ∙ length-append (filter p (range_with_len 0 n)) (filter p ((0 + n) ∷ []))
    ∙ ap (λ (k : ℕ). length (filter p (range_with_len 0 n)) + length (filter p (k ∷ []))) (plain n)
    ∙ ap (λ (k : ℕ). length (filter p (range_with_len 0 n)) + k) (one_test p n)
  where
    plain : (n : ℕ) → 0 + n ≡ n
    plain n = omega arith

pub one_at_most : (t : Bool) → (if t then 1 else 0) ≤ 1
one_at_most true = omega arith
one_at_most false = omega arith

pub all_ids : range_with_len 0 256 ≡ ids
unfolding ids
all_ids = refl

-- ---- tests of all entries

all_from : {X : Type 0} (p : X → Bool) (P : X → Type 0) → ((x : X) → p x ≡ true → P x) → (xs : List X) → list_all p xs ≡ true → All P xs
all_from p P means [] is = All-nil P
all_from p P means (x ∷ xs) is =
    let both = and_parts (p x) (list_all p xs) is in
    All-cons P x xs (means x both.0) (all_from p P means xs both.1)

all_to : {X : Type 0} (p : X → Bool) (P : X → Type 0) → ((x : X) → P x → p x ≡ true) → (xs : List X) → All P xs → list_all p xs ≡ true
all_to p P means [] all = refl
all_to p P means (x ∷ xs) all = and_from (p x) (list_all p xs) (means x (All-head P x xs all)) (all_to p P means xs (All-tail P x xs all))

-- where the numbers are one, the test holds
if_same : (a b : ℕ) (t : Bool) → (not (a == b) || t) ≡ true → a ≡ b → t ≡ true
if_same a b t is same = let yes : (a == b) ≡ true = eq-eqb a b same in (rw yes at is)

same_if : (a b : ℕ) (t : Bool) → (a ≡ b → t ≡ true) → (not (a == b) || t) ≡ true
same_if a b t holds = elim (cases_Bool (a == b)) [
  | inl is ↦ rw (is, holds (eqb-true a b is)) refl
  | inr is ↦ rw is refl
]

lt-ltb : (a b : ℕ) → a < b → nat_lt a b ≡ true
lt-ltb a b less = grind (arith, nat_tests, less)

-- ---- one entry less

count_less : (src : ℕ) (before : List Held) (e : Held) (after : List Held) → (e.src == src) ≡ true
    → count_held (before ++ e ∷ after) src ≡ count_held (before ++ after) src + 1
count_less src [] e after is =
    sum_by-cons (λ (h : Held). cond (h.src == src) 1 0) e after ∙ rw is (omega arith)
count_less src (b ∷ before) e after is =
    sum_by-cons (λ (h : Held). cond (h.src == src) 1 0) b (before ++ e ∷ after)
    ∙ ap (λ (n : ℕ). cond (b.src == src) 1 0 + n) (count_less src before e after is)
    ∙ move (cond (b.src == src) 1 0) (count_held (before ++ after) src)
    ∙ ap (λ (n : ℕ). n + 1) (sym (sum_by-cons (λ (h : Held). cond (h.src == src) 1 0) b (before ++ after)))
  where
    move : (a b : ℕ) → a + (b + 1) ≡ (a + b) + 1
    move a b = omega arith

kept_count : (hs before : List Held) (e : Held) (after : List Held) → hs ≡ before ++ e ∷ after → count_held hs e.src ≡ count_held (before ++ after) e.src + 1
kept_count hs before e after there = ap (λ (xs : List Held). count_held xs e.src) there ∙ count_less e.src before e after (eq-eqb e.src e.src refl)

-- ---- both ways

pub share_from : (capacity : ℕ) (hs before : List Held) (e : Held) (after : List Held) (id : ℕ) → length hs ≡ capacity + 1 → hs ≡ before ++ e ∷ after
    → may_go capacity hs before e id ≡ true → IsShare capacity hs id
share_from capacity hs before e after id full there is =
    let count = count_held hs e.src in
    let fair = nat_le (capacity / length (sources_held hs)) (count - 1) in
    let one = and_parts (e.id == id)
    (is_most hs count && (is_lowest_source hs count e.src && (is_lowest hs e.src e.prio && (is_first before e.src e.prio && fair)))) is in
    let two = and_parts (is_most hs count) (is_lowest_source hs count e.src && (is_lowest hs e.src e.prio && (is_first before e.src e.prio && fair))) one.1 in
    let three = and_parts (is_lowest_source hs count e.src) (is_lowest hs e.src e.prio && (is_first before e.src e.prio && fair)) two.1 in
    let four = and_parts (is_lowest hs e.src e.prio) (is_first before e.src e.prio && fair) three.1 in
    let five = and_parts (is_first before e.src e.prio) fair four.1 in
    let least = leb-true (capacity / length (sources_held hs)) (count - 1) five.1 in
    record {
      full = full;
      before = before;
      entry = e;
      after = after;
      there = there;
      named = eqb-true e.id id one.0;
      most = all_from (λ h. nat_le (count_held hs h.src) count) (λ h. count_held hs h.src ≤ count) (λ h t. leb-true (count_held hs h.src) count t) hs two.0;
      lowest_source = all_from (λ h. not (count_held hs h.src == count) || nat_le e.src h.src) (λ h. count_held hs h.src ≡ count → e.src ≤ h.src)
          (λ h t same. leb-true e.src h.src (if_same (count_held hs h.src) count (nat_le e.src h.src) t same)) hs three.0;
      lowest = all_from (λ h. not (h.src == e.src) || nat_le e.prio h.prio) (λ h. h.src ≡ e.src → e.prio ≤ h.prio)
          (λ h t same. leb-true e.prio h.prio (if_same h.src e.src (nat_le e.prio h.prio) t same)) hs four.0;
      first = all_from (λ h. not (h.src == e.src) || nat_lt e.prio h.prio) (λ h. h.src ≡ e.src → e.prio < h.prio)
          (λ h t same. ltb-true e.prio h.prio (if_same h.src e.src (nat_lt e.prio h.prio) t same)) before five.0;
      share = enough (capacity / length (sources_held hs)) count (count_held (before ++ after) e.src) least (kept_count hs before e after there);
    }
  where
    enough : (q n k : ℕ) → q ≤ n - 1 → n ≡ k + 1 → q ≤ k
    enough q n k least more = omega (arith, least, more)

pub may_from : (capacity : ℕ) (hs : List Held) (id : ℕ) (s : IsShare capacity hs id) → may_go capacity hs s.before s.entry id ≡ true
may_from capacity hs id s =
    let e = s.entry in
    let count = count_held hs e.src in
    let fair = nat_le (capacity / length (sources_held hs)) (count - 1) in
    and_from (e.id == id) (is_most hs count && (is_lowest_source hs count e.src && (is_lowest hs e.src e.prio && (is_first s.before e.src e.prio && fair))))
    (eq-eqb e.id id s.named)
    (and_from (is_most hs count) (is_lowest_source hs count e.src && (is_lowest hs e.src e.prio && (is_first s.before e.src e.prio && fair)))
    (all_to (λ h. nat_le (count_held hs h.src) count) (λ h. count_held hs h.src ≤ count) (λ h t. le-leb (count_held hs h.src) count t) hs s.most)
    (and_from (is_lowest_source hs count e.src) (is_lowest hs e.src e.prio && (is_first s.before e.src e.prio && fair))
    (all_to (λ h. not (count_held hs h.src == count) || nat_le e.src h.src) (λ h. count_held hs h.src ≡ count → e.src ≤ h.src)
    (λ h t. same_if (count_held hs h.src) count (nat_le e.src h.src) (λ same. le-leb e.src h.src (t same))) hs s.lowest_source)
    (and_from (is_lowest hs e.src e.prio) (is_first s.before e.src e.prio && fair)
    (all_to (λ h. not (h.src == e.src) || nat_le e.prio h.prio) (λ h. h.src ≡ e.src → e.prio ≤ h.prio)
    (λ h t. same_if h.src e.src (nat_le e.prio h.prio) (λ same. le-leb e.prio h.prio (t same))) hs s.lowest)
    (and_from (is_first s.before e.src e.prio) fair
    (all_to (λ h. not (h.src == e.src) || nat_lt e.prio h.prio) (λ h. h.src ≡ e.src → e.prio < h.prio)
    (λ h t. same_if h.src e.src (nat_lt e.prio h.prio) (λ same. lt-ltb e.prio h.prio (t same))) s.before s.first)
    (le-leb (capacity / length (sources_held hs)) (count - 1)
    (enough (capacity / length (sources_held hs)) count (count_held (s.before ++ s.after) e.src) s.share (kept_count hs s.before e s.after s.there)))))))
  where
    enough : (q n k : ℕ) → q ≤ k → n ≡ k + 1 → q ≤ n - 1
    enough q n k least more = omega (arith, least, more)

-- ---- places

pub split_at : {X : Type 0} (xs : List X) (i : ℕ) (x : X) → i < length xs → x ≡ get_or xs i x → xs ≡ take i xs ++ x ∷ drop (i + 1) xs
split_at [] i x below is = absurd (omega (arith, below))
split_at (y ∷ xs) zero x below is = ap (λ (z : _). z ∷ xs) (sym is)
split_at (y ∷ xs) (suc i) x below is =
    ap (λ (zs : List _). y ∷ zs) (split_at xs i x (omega (arith, below)) is) ∙ ap (λ (n : ℕ). y ∷ (take i xs ++ x ∷ drop n (y ∷ xs))) (later i)
  where
    later : (n : ℕ) → suc (n + 1) ≡ suc n + 1
    later n = omega arith

-- no entry up to this place may go
pub none_yet : (capacity : ℕ) (hs : List Held) (id i : ℕ) (x : Held) → x ≡ get_or hs i x
    → ((before : List Held) (e : Held) (after : List Held) → hs ≡ before ++ e ∷ after → length before < i → may_go capacity hs before e id ≡ true → ⊥)
    → may_go capacity hs (take i hs) x id ≡ false
    → (before : List Held) (e : Held) (after : List Held) → hs ≡ before ++ e ∷ after → length before < i + 1 → may_go capacity hs before e id ≡ true → ⊥
none_yet capacity hs id i x is none never before e after there less may = elim (cases_Bool (length before == i)) [
  | inl t ↦
      let here : length before ≡ i = eqb-true (length before) i t in
      let front : take i hs ≡ before = ap₂ (λ (n : ℕ) (xs : List Held). take n xs) (sym here) there ∙ take-append_seam before (e ∷ after) in
      let item : x ≡ e = is ∙ ap₂ (λ (n : ℕ) (xs : List Held). get_or xs n x) (sym here) there ∙ get_or-append_seam before e after x in
      let wrong : true ≡ false = sym may ∙ sym (ap₂ (λ (xs : List Held) (y : Held). may_go capacity hs xs y id) front item) ∙ never in
      cc
  | inr t ↦ none before e after there (grind (arith, nat_tests, less, t)) may
]
