-- The source with most entries has at least its share of them, and loses one.
use Rattle.std.proofs.Common.{◌≡◌, ◌≤◌, ◌<◌, ℕ, zero, suc, ◌+◌, ◌-◌, ◌*◌, ◌/◌, Bool, true, false, List, [], ◌∷◌, length, get_or, Option, Some, None, refl, sym}
use Rattle.std.proofs.Common.{ap, subst, ◌∙◌, arith, cond, nat_lt}
use Rattle.std.specs.Prelude.{◌==◌, All, AllPairs, Contains, ◌≢◌, filter, sum_by}
use Rattle.std.specs.List.{range_with_len}
use Rattle.std.specs.Option.{option_and_then}
use Rattle.std.proofs.Math.Nat.{div-lt_iff_lt-mul, mul_comm}
use Rattle.std.proofs.lemmas.Bool.Decides.{nat_tests}
use Rattle.std.proofs.lemmas.List.Elements.{All-contains, All-contains_itself, All-filter, All-from_get_or, All-head, All-tail, filter_passes}
use Rattle.std.proofs.lemmas.List.Sums.{sum_by-cons, sum_by-le}
use Rattle.sp_rules.proofs.ChoiceLemmas.{first_is_there, more_first, none_before}
use Rattle.sp_rules.specs.Choices.{less_first}
use Rattle.sp_rules.specs.Store.{count_of, fullest, has_entries, has_id, ids, is_of, lowest, priority, source, sources, victim}
use Rattle.sp_rules.specs.declared.store.Entry.{Entry}
use Rattle.sp_rules.specs.declared.store.TheConstants.{IDS}
use Rattle.laws_node.specs.PriorityLaws.{FairShares}

-- ---- sums

sum_plus : {X : Type 0} (f g : X → ℕ) (xs : List X) → sum_by (λ x. f x + g x) xs ≡ sum_by f xs + sum_by g xs
sum_plus f g [] = refl
sum_plus f g (x ∷ xs) = omega (arith, sum_by-cons (λ y. f y + g y) x xs, sum_by-cons f x xs, sum_by-cons g x xs, sum_plus f g xs)

sum_same : {X : Type 0} (f g : X → ℕ) (xs : List X) → ((x : X) → f x ≡ g x) → sum_by f xs ≡ sum_by g xs
sum_same f g [] same = refl
sum_same f g (x ∷ xs) same = omega (arith, sum_by-cons f x xs, sum_by-cons g x xs, same x, sum_same f g xs same)

-- what adds nothing may be left out
sum_filter : {X : Type 0} (p : X → Bool) (f : X → ℕ) (xs : List X) → ((x : X) → p x ≡ false → f x ≡ 0) → sum_by f (filter p xs) ≡ sum_by f xs
sum_filter p f [] nothing = refl
sum_filter {X} p f (x ∷ xs) nothing = go (p x) refl (sum_filter p f xs nothing)
  where
    go : (t : Bool) → p x ≡ t → sum_by f (filter p xs) ≡ sum_by f xs → sum_by f (cond (p x) (x ∷ filter p xs) (filter p xs)) ≡ sum_by f (x ∷ xs)
    go true is rest = rw is (omega (arith, sum_by-cons f x (filter p xs), sum_by-cons f x xs, rest))
    go false is rest = rw is (omega (arith, sum_by-cons f x xs, rest, nothing x is))

-- ---- every entry is counted once

count_one : ℕ → ℕ → ℕ
count_one s id = cond (s == id) 1 0

count_yes : (s : ℕ) → count_one s s ≡ 1
unfolding count_one
count_yes s = let same : (s == s) ≡ true = grind (arith, nat_tests) in rw same refl

count_no : (s id : ℕ) → (s ≡ id → ⊥) → count_one s id ≡ 0
unfolding count_one
count_no s id apart = ap (λ (t : Bool). let n : ℕ = cond t 1 0 in n) (differs (s == id) refl)
  where
    differs : (t : Bool) → (s == id) ≡ t → (s == id) ≡ false
    differs true is = absurd (apart (let same : s ≡ id = grind (arith, nat_tests) in same))
    differs false is = is

count_cons : (e : Entry) (es : List Entry) (id : ℕ) → count_of (e ∷ es) id ≡ count_one (source e) id + count_of es id
unfolding count_one
count_cons e es id = sum_by-cons (λ x. cond (is_of id x) 1 0) e es

never : (s first count : ℕ) → s < first → sum_by (count_one s) (range_with_len first count) ≡ 0
never s first zero below = refl
never s first (suc count) below =
    omega (
      arith,
      sum_by-cons (count_one s) first (range_with_len (first + 1) count),
      count_no s first (λ same. omega (arith, same, below)),
      never s (first + 1) count (omega arith),
    )

-- of a range of numbers, one is this number
once : (s first count : ℕ) → first ≤ s → s < first + count → sum_by (count_one s) (range_with_len first count) ≡ 1
once s first zero from below = absurd (omega arith)
once s first (suc count) from below = go (nat_lt first s) refl (λ later. once s (first + 1) count later (omega arith))
  where
    go : (t : Bool) → nat_lt first s ≡ t → (first + 1 ≤ s → sum_by (count_one s) (range_with_len (first + 1) count) ≡ 1) → sum_by (count_one s)
        (range_with_len first (suc count)) ≡ 1
    go true is rest =
        let later : first < s = grind (arith, nat_tests) in
        omega (
          arith,
          sum_by-cons (count_one s) first (range_with_len (first + 1) count),
          count_no s first (λ same. omega (arith, same, later)),
          rest (omega (arith, later)),
        )
    go false is rest =
        let here : s ≤ first = grind (arith, nat_tests) in
        let same : first ≡ s = omega (arith, here, from) in
        omega (
          arith,
          sum_by-cons (count_one s) first (range_with_len (first + 1) count),
          ap (count_one s) same ∙ count_yes s,
          never s (first + 1) count (omega (arith, here)),
        )

-- the counts of all ids are those of the entries
counts_of_all : (n : ℕ) (es : List Entry) → All (λ e. source e < n) es → sum_by (count_of es) (range_with_len 0 n) ≡ length es
counts_of_all n [] from = none (range_with_len 0 n)
  where
    none : (ns : List ℕ) → sum_by (count_of []) ns ≡ 0
    none [] = refl
    none (m ∷ ns) = omega (arith, sum_by-cons (count_of []) m ns, none ns)
counts_of_all n (e ∷ es) from =
    omega (
      arith,
      sum_same (count_of (e ∷ es)) (λ id. count_one (source e) id + count_of es id) (range_with_len 0 n) (count_cons e es),
      sum_plus (count_one (source e)) (count_of es) (range_with_len 0 n),
      once (source e) 0 n (omega arith) (omega (arith, All-head (λ x. source x < n) e es from)),
      counts_of_all n es (All-tail (λ x. source x < n) e es from),
    )

counts_of_ids : (es : List Entry) → All (λ e. source e < IDS) es → sum_by (count_of es) ids ≡ length es
unfolding ids
counts_of_ids es from = counts_of_all IDS es from

-- ids without entries count nothing
no_count : (es : List Entry) (id : ℕ) → has_entries es id ≡ false → count_of es id ≡ 0
no_count [] id none = refl
no_count (e ∷ es) id none = go (is_of id e) refl (has_entries es id) refl (no_count es id)
  where
    go : (a : Bool) → is_of id e ≡ a → (b : Bool) → has_entries es id ≡ b → (has_entries es id ≡ false → count_of es id ≡ 0) → count_of (e ∷ es) id ≡ 0
    go true is b has rest = absurd (let no : true ≡ false = rw is at none in cc)
    go false is true has rest = absurd (let no : true ≡ false = rw (is, has) at none in cc)
    go false is false has rest =
        omega (
          arith,
          count_cons e es id,
          count_no (source e) id (λ same. let yes : is_of id e ≡ true = grind (arith, nat_tests) in let no : true
              ≡ false = sym yes ∙ is in absurd (cc)),
          rest has,
        )

-- ---- the victim

-- it is one of the entries of the fullest source
record IsVictim (es : List Entry) (v : Entry) : Type 0 where
  there : Contains es v
  most : All (λ id. count_of es id ≤ count_of es (source v)) ids

of_fullest : (es : List Entry) (v : Entry) (b : ℕ) → fullest es ≡ Some b → lowest es b ≡ Some v → IsVictim es v
of_fullest es v b full low = record {
  there = All-contains (Contains es) (filter (is_of b) es) v (All-filter (is_of b) (Contains es) es (All-contains_itself es)) chosen;
  most = subst (λ (n : ℕ). All (λ id. count_of es id ≤ count_of es n) ids) (sym mine)
      (All-from_get_or (λ id. count_of es id ≤ count_of es b) ids 0 (λ k inside. not_below (count_of es b) (count_of es (get_or ids k 0))
      (none_before (λ x y. nat_lt (count_of es y) (count_of es x)) (more_first (count_of es)) ids b 0 full k inside)));
}
  where
    chosen : Contains (filter (is_of b) es) v
    chosen = first_is_there (λ x y. nat_lt (priority x) (priority y)) (filter (is_of b) es) v low

    of_it : is_of b v ≡ true
    of_it = All-contains (λ x. is_of b x ≡ true) (filter (is_of b) es) v (filter_passes (is_of b) es) chosen

    mine : source v ≡ b
    mine = let e = of_it in grind (arith, nat_tests)

    not_below : (m n : ℕ) → nat_lt m n ≡ false → n ≤ m
    not_below m n e = grind (arith, nat_tests)

victim_of : (es : List Entry) (v : Entry) → victim es ≡ Some v → IsVictim es v
victim_of es v goes = go (fullest es) refl
  where
    go : (f : Option ℕ) → fullest es ≡ f → IsVictim es v
    go None is = absurd (let no : None ≡ Some v = ap (option_and_then (lowest es)) (sym is) ∙ goes in cc)
    go (Some b) is = of_fullest es v b is (ap (option_and_then (lowest es)) (sym is) ∙ goes)

-- ---- it goes

loses_one : (es : List Entry) (v : Entry) → AllPairs (λ a b. a.id ≢ b.id) es → Contains es v → count_of (less_first (has_id v.id) es)
    (source v) + 1 ≡ count_of es (source v)
loses_one [] v own there = absurd (omega (arith, there.1))
loses_one (e ∷ es) v own there = go (has_id v.id e) refl there.0 there.1 there.2 (loses_one es v (λ i j d before inside. own (suc i)
    (suc j) d (omega (arith, before)) (omega (arith, inside))))
  where
    go : (t : Bool) → has_id v.id e ≡ t → (k : ℕ) → k < length (e ∷ es) → get_or (e ∷ es) k v ≡ v → (Contains es v →
        count_of (less_first (has_id v.id) es) (source v) + 1 ≡ count_of es (source v)) →
        count_of (cond (has_id v.id e) es (e ∷ less_first (has_id v.id) es)) (source v) + 1 ≡ count_of (e ∷ es) (source v)
    go true is zero inside at rest =
        rw is (omega (arith, count_cons e es (source v), ap (λ (x : Entry). count_one (source x) (source v)) at ∙ count_yes (source v)))
    go true is (suc k) inside at rest =
        let same : e.id ≡ v.id = grind (arith, nat_tests) in
        absurd (own 0 (suc k) v (omega arith) inside (same ∙ ap (λ (x : Entry). x.id) (sym at)))
    go false is zero inside at rest =
        let same : e.id ≡ v.id = ap (λ (x : Entry). x.id) at in
        absurd (let yes : has_id v.id e ≡ true = grind (arith, nat_tests) in let no : true ≡ false = sym yes ∙ is in cc)
    go false is (suc k) inside at rest =
        rw is (omega (arith, count_cons e (less_first (has_id v.id) es) (source v), count_cons e es (source v), rest (k, omega (arith, inside), at)))

-- ---- the share

share : (len k m left : ℕ) → 0 < len → len ≤ k * m → left + 1 ≡ m → (len - 1) / k ≤ left
share len zero m left some most one = absurd (omega arith)
share len (suc k) m left some most one =
    let below : (len - 1) / suc k < m = (div-lt_iff_lt-mul {k = suc k} {x = len - 1} {y = m} (omega arith)).1 (omega (arith, most, some, mul_comm (suc k) m)) in
    omega (arith, below, one)

pub fair : FairShares
fair es v good goes =
    let it = victim_of es v goes in
    let some : 0 < length es = omega (arith, it.there.1) in
    let most : length es ≤ length (sources es) * count_of es (source v) =
    omega (
      arith,
      counts_of_ids es good.from_ids,
      sum_filter (has_entries es) (count_of es) ids (no_count es),
      sum_by-le (count_of es)
          (count_of es (source v)) (sources es) (All-filter (has_entries es) (λ id. count_of es id ≤ count_of es (source v)) ids it.most),
    ) in
    share (length es) (length (sources es)) (count_of es (source v)) (count_of (less_first (has_id v.id) es)
    (source v)) some most (loses_one es v good.own_ids it.there)
