-- Which entry of a full place goes, and what share its source keeps.
use Rattle.laws_runs.specs.Places.{Rising, all_held, as_held, less_held}
use Rattle.std.proofs.Common.{◌≡◌, ◌<◌, ◌≤◌, ℕ, zero, suc, ◌+◌, ◌-◌, ◌/◌, ◌==◌, Bool, true, false, cond, List, [], ◌∷◌, ◌++◌, length, get_or, filter, Option}
use Rattle.std.proofs.Common.{Some, None, refl, sym, ap, subst, ◌∙◌, inl, inr, arith, nat_lt}
use Rattle.std.specs.Prelude.{◌||◌, ◌≢◌, AllPairs, Contains, drop}
use Rattle.std.specs.List.{All, list_any, range_with_len}
use Rattle.std.specs.Option.{option_and_then}
use Rattle.std.proofs.lemmas.Bool.{cases_Bool, cases_eq, eq-eqb, eqb-true, ne_eqb}
use Rattle.std.proofs.lemmas.Bool.Decides.{nat_tests}
use Rattle.std.proofs.lemmas.List.{map-append}
use Rattle.std.proofs.lemmas.List.Elements.{All-cons, All-contains, All-contains_itself, All-filter, All-head, All-nil, All-tail, filter_passes}
use Rattle.std.proofs.lemmas.List.Kept.{AllPairs-cons}
use Rattle.sp_rules.proofs.ChoiceLemmas.{first_is_there}
use Rattle.std.proofs.lemmas.List.Sums.{sum_by-cons}
use Rattle.sp_rules.specs.Choices.{first_by, less_first, sooner}
use Rattle.sp_rules.specs.Store.{count_of, fullest, has_entries, has_id, ids, is_of, lowest, oldest, priority, source, sources, victim}
use Rattle.sp_rules.specs.declared.store.Entry.{Entry}
use Rattle.sp_rules.specs.declared.store.TheConstants.{IDS}
use Rattle.laws_node.proofs.Tables.{all_weaker, cond_either}
use Rattle.laws_node.proofs.StoreShares.{fair}
use Rattle.sp_runs.specs.Held.{Held, IsShare, count_held, sources_held}

-- ---- entries as effects tell them

rising_low : (b c : ℕ) (es : List Entry) → b ≤ c → Rising c es → Rising b es
rising_low b c [] le h = tt
rising_low b c (e ∷ es) le h = (omega (arith, le, h.0), h.1)

pub rising_push : (b : ℕ) (es : List Entry) (e : Entry) → All (λ x. x.id < e.id) es → b < e.id → Rising b es → Rising b (es ++ e ∷ [])
rising_push b [] e all below h = (below, tt)
rising_push b (x ∷ es) e all below h =
    (h.0, rising_push x.id es e (All-tail (λ (y : Entry). y.id < e.id) x es all) (All-head (λ (y : Entry). y.id < e.id) x es all) h.1)

pub rising_less : (b : ℕ) (test : Entry → Bool) (es : List Entry) → Rising b es → Rising b (less_first test es)
rising_less b test [] h = tt
rising_less b test (e ∷ es) h =
    cond_either (Rising b) (test e) es (e ∷ less_first test es) (rising_low b e.id es (omega (arith, h.0)) h.1) (h.0, rising_less e.id test es h.1)

pub rising_filter : (b : ℕ) (test : Entry → Bool) (es : List Entry) → Rising b es → Rising b (filter test es)
rising_filter b test [] h = tt
rising_filter b test (e ∷ es) h =
    cond_either (Rising b) (test e) (e ∷ filter test es) (filter test es) (h.0, rising_filter e.id test es h.1)
    (rising_low b e.id (filter test es) (omega (arith, h.0)) (rising_filter e.id test es h.1))

pub rising_drop : (b : ℕ) (es : List Entry) → Rising b es → Rising b (drop 1 es)
rising_drop b [] h = tt
rising_drop b (e ∷ es) h = rising_low b e.id es (omega (arith, h.0)) h.1

-- ---- one that goes

pub keeps_all : (id b : ℕ) (es : List Entry) → id ≤ b → Rising b es → less_held id (all_held es) ≡ all_held es
keeps_all id b [] le h = refl
keeps_all id b (e ∷ es) le h =
    let other : (e.id == id) ≡ false = ne_eqb e.id id (λ same. omega (arith, same, le, h.0)) in
    rw other (ap (λ hs. as_held e ∷ hs) (keeps_all id e.id es (omega (arith, le, h.0)) h.1))

pub less_one_held : (id b : ℕ) (es : List Entry) → Rising b es → less_held id (all_held es) ≡ all_held (less_first (has_id id) es)
less_one_held id b [] h = refl
less_one_held id b (e ∷ es) h = elim (cases_Bool (e.id == id)) [
  | inl t ↦ let same = eqb-true e.id id t in rw t (keeps_all id e.id es (omega (arith, same)) h.1)
  | inr t ↦ rw t (ap (λ hs. as_held e ∷ hs) (less_one_held id e.id es h.1))
]

-- ---- counts are the same

count_same : (es : List Entry) (src : ℕ) → count_held (all_held es) src ≡ count_of es src
count_same [] src = refl
count_same (e ∷ es) src =
    sum_by-cons (λ (h : Held). cond (h.src == src) 1 0) (as_held e) (all_held es) ∙ ap (λ n. cond (source e == src) 1 0 + n) (count_same es src)
    ∙ sym (sum_by-cons (λ (x : Entry). cond (is_of src x) 1 0) e es)

any_same : (es : List Entry) (src : ℕ) → list_any (λ (h : Held). h.src == src) (all_held es) ≡ has_entries es src
any_same [] src = refl
any_same (e ∷ es) src = ap (λ t. (source e == src) || t) (any_same es src)

filter_same : {X : Type 0} (p q : X → Bool) → ((x : X) → p x ≡ q x) → (xs : List X) → filter p xs ≡ filter q xs
filter_same p q same [] = refl
filter_same {X} p q same (x ∷ xs) =
    ap (λ (t : Bool). cond t (x ∷ filter p xs) (filter p xs)) (same x) ∙ ap (λ (ys : List X). cond (q x) (x ∷ ys) ys) (filter_same p q same xs)

sources_same : (es : List Entry) → sources_held (all_held es) ≡ sources es
sources_same es = filter_same (λ id. list_any (λ (h : Held). h.src == id) (all_held es)) (has_entries es) (any_same es) ids

-- ---- which one goes

-- of a range, the first that has most: those before have less, all have at most as much
record IsBest (f : ℕ → ℕ) (first count b : ℕ) : Type 0 where
  inside : (first ≤ b) × (b < first + count)
  most : (n : ℕ) → first ≤ n → n < first + count → f n ≤ f b
  less : (n : ℕ) → first ≤ n → n < b → f n < f b

best : (f : ℕ → ℕ) (first count b : ℕ) → first_by (λ x y. nat_lt (f y) (f x)) (range_with_len first count) ≡ Some b → IsBest f first count b
best f first zero b is = absurd (cc)
best f first (suc count) b is =
    go (first_by (λ x y. nat_lt (f y) (f x)) (range_with_len (first + 1) count)) refl (λ c chosen. best f (first + 1) count c chosen)
  where
    alone : count ≡ 0 → first ≡ b → IsBest f first (suc count) b
    alone none same = record {
      inside = (omega (arith, same), omega (arith, same));
      most = λ n low high. let one : n ≡ b = omega (arith, low, high, none, same) in subst (λ m. f m ≤ f b) (sym one) (omega arith);
      less = λ n low below. absurd (omega (arith, low, below, same));
    }

    nothing : (k : ℕ) → first_by (λ x y. nat_lt (f y) (f x)) (range_with_len (first + 1) k) ≡ None → k ≡ 0
    nothing zero e = refl
    nothing (suc k) e = absurd (cc)

    of_two : (c : ℕ) (t : Bool) → nat_lt (f first) (f c) ≡ t → cond t c first ≡ b → IsBest f (first + 1) count c → IsBest f first (suc count) b
    of_two c true goes chosen h =
        let above : f first < f c = grind (arith, nat_tests) in
        subst (IsBest f first (suc count)) chosen (record {
          inside = (omega (arith, h.inside), omega (arith, h.inside));
          most = λ n low high. elim (cases_eq n first) [
            | inl same ↦ subst (λ m. f m ≤ f c) (sym same) (omega (arith, above))
            | inr other ↦ h.most n (omega (arith, low, other)) (omega (arith, high))
          ];
          less = λ n low below. elim (cases_eq n first) [
            | inl same ↦ subst (λ m. f m < f c) (sym same) above
            | inr other ↦ h.less n (omega (arith, low, other)) below
          ];
        })
    of_two c false goes chosen h =
        let not_above : f c ≤ f first = grind (arith, nat_tests) in
        subst (IsBest f first (suc count)) chosen (record {
          inside = (omega arith, omega arith);
          most = λ n low high. elim (cases_eq n first) [
            | inl same ↦ subst (λ m. f m ≤ f first) (sym same) (omega arith)
            | inr other ↦ let most = h.most n (omega (arith, low, other)) (omega (arith, high)) in omega (arith, most, not_above)
          ];
          less = λ n low below. absurd (omega (arith, low, below));
        })

    go : (o : Option ℕ) → first_by (λ x y. nat_lt (f y) (f x)) (range_with_len (first + 1) count) ≡ o
        → ((c : ℕ) → first_by (λ x y. nat_lt (f y) (f x)) (range_with_len (first + 1) count) ≡ Some c → IsBest f (first + 1) count c)
        → IsBest f first (suc count) b
    go None none rest =
        let chosen : Some (sooner (λ x y. nat_lt (f y) (f x)) first None) ≡ Some b = rw none at is in
        alone (nothing count none) (let same : first ≡ b = cc in same)
    go (Some c) some rest =
        let chosen : Some (sooner (λ x y. nat_lt (f y) (f x)) first (Some c)) ≡ Some b = rw some at is in
        of_two c (nat_lt (f first) (f c)) refl (let same : sooner (λ x y. nat_lt (f y) (f x)) first (Some c) ≡ b = cc in same) (rest c some)

-- of entries with rising ids, the oldest of those of lowest priority
record IsLowest (es : List Entry) (v : Entry) : Type 0 where
  lowest_of : All (λ e. priority v ≤ priority e) es
  oldest_of : All (λ e. priority e ≡ priority v → v.id ≤ e.id) es

pub above_all : (b : ℕ) (es : List Entry) → Rising b es → All (λ e. b < e.id) es
above_all b [] h = All-nil (λ (e : Entry). b < e.id)
above_all b (e ∷ es) h =
    All-cons (λ (x : Entry). b < x.id) e es h.0
    (all_weaker (λ (x : Entry). e.id < x.id) (λ (x : Entry). b < x.id) es (λ x far. omega (arith, far, h.0)) (above_all e.id es h.1))

low : (b : ℕ) (es : List Entry) (v : Entry) → Rising b es → first_by (λ x y. nat_lt (priority x) (priority y)) es ≡ Some v → IsLowest es v
low b [] v rising is = absurd (cc)
low b (e ∷ es) v rising is = go (first_by (λ x y. nat_lt (priority x) (priority y)) es) refl (λ c chosen. low e.id es c rising.1 chosen)
  where
    itself : es ≡ [] → IsLowest (e ∷ es) e
    itself none = record {
      lowest_of = subst (λ xs. All (λ (y : Entry). priority e ≤ priority y) (e ∷ xs)) (sym none)
          (All-cons (λ (y : Entry). priority e ≤ priority y) e [] (omega arith) (All-nil (λ (y : Entry). priority e ≤ priority y)));
      oldest_of = subst (λ xs. All (λ (y : Entry). priority y ≡ priority e → e.id ≤ y.id) (e ∷ xs)) (sym none)
          (All-cons (λ (y : Entry). priority y ≡ priority e → e.id ≤ y.id) e [] (λ same. omega arith)
          (All-nil (λ (y : Entry). priority y ≡ priority e → e.id ≤ y.id)));
    }

    empty : (xs : List Entry) → first_by (λ x y. nat_lt (priority x) (priority y)) xs ≡ None → xs ≡ []
    empty [] none = refl
    empty (x ∷ xs) none = absurd (cc)

    of_two : (c : Entry) (t : Bool) → nat_lt (priority c) (priority e) ≡ t → IsLowest es c → IsLowest (e ∷ es) (cond t c e)
    of_two c true goes h =
        let lower : priority c < priority e = grind (arith, nat_tests) in
        record {
          lowest_of = All-cons (λ (y : Entry). priority c ≤ priority y) e es (omega (arith, lower)) h.lowest_of;
          oldest_of = All-cons (λ (y : Entry). priority y ≡ priority c → c.id ≤ y.id) e es (λ same. absurd (omega (arith, same, lower))) h.oldest_of;
        }
    of_two c false goes h =
        let not_lower : priority e ≤ priority c = grind (arith, nat_tests) in
        record {
          lowest_of = All-cons (λ (y : Entry). priority e ≤ priority y) e es (omega arith)
              (all_weaker (λ (y : Entry). priority c ≤ priority y) (λ (y : Entry). priority e ≤ priority y) es (λ y far. omega (arith, far, not_lower))
              h.lowest_of);
          oldest_of = All-cons (λ (y : Entry). priority y ≡ priority e → e.id ≤ y.id) e es (λ same. omega arith)
              (all_weaker (λ (y : Entry). e.id < y.id) (λ (y : Entry). priority y ≡ priority e → e.id ≤ y.id) es (λ y far same. omega (arith, far))
              (above_all e.id es rising.1));
        }

    go : (o : Option Entry) → first_by (λ x y. nat_lt (priority x) (priority y)) es ≡ o
        → ((c : Entry) → first_by (λ x y. nat_lt (priority x) (priority y)) es ≡ Some c → IsLowest es c) → IsLowest (e ∷ es) v
    go None none rest =
        let chosen : Some (sooner (λ x y. nat_lt (priority x) (priority y)) e None) ≡ Some v = rw none at is in
        let same : e ≡ v = cc in
        subst (IsLowest (e ∷ es)) same (itself (empty es none))
    go (Some c) some rest =
        let chosen : Some (sooner (λ x y. nat_lt (priority x) (priority y)) e (Some c)) ≡ Some v = rw some at is in
        let same : sooner (λ x y. nat_lt (priority x) (priority y)) e (Some c) ≡ v = cc in
        subst (IsLowest (e ∷ es)) same (of_two c (nat_lt (priority c) (priority e)) refl (rest c some))

-- ---- the share of the source that loses one

all_of_map : (Q : Held → Type 0) (es : List Entry) → All (λ e. Q (as_held e)) es → All Q (all_held es)
all_of_map Q [] all = All-nil Q
all_of_map Q (e ∷ es) all =
    All-cons Q (as_held e) (all_held es) (All-head (λ (x : Entry). Q (as_held x)) e es all) (all_of_map Q es (All-tail (λ (x : Entry). Q (as_held x)) e es all))

where_passes : (P : Entry → Type 0) (t : Entry → Bool) (es : List Entry) → All P (filter t es) → All (λ e. t e ≡ true → P e) es
where_passes P t [] all = All-nil (λ (e : Entry). t e ≡ true → P e)
where_passes P t (e ∷ es) all = go (t e) refl all (where_passes P t es)
  where
    go : (b : Bool) → t e ≡ b → All P (cond b (e ∷ filter t es) (filter t es)) → (All P (filter t es) → All (λ x. t x ≡ true → P x) es)
        → All (λ x. t x ≡ true → P x) (e ∷ es)
    go true is all rest = All-cons (λ (x : Entry). t x ≡ true → P x) e es (λ passes. All-head P e (filter t es) all) (rest (All-tail P e (filter t es) all))
    go false is all rest = All-cons (λ (x : Entry). t x ≡ true → P x) e es (λ passes. absurd (let f : true ≡ false = sym passes ∙ is in cc)) (rest all)

all_length : (es : List Entry) → length (all_held es) ≡ length es
all_length [] = refl
all_length (e ∷ es) = ap suc (all_length es)

ids_differ : (b : ℕ) (es : List Entry) → Rising b es → AllPairs (λ x y. x.id ≢ y.id) es
ids_differ b [] rising = λ i j d below within. absurd (omega (arith, within))
ids_differ b (e ∷ es) rising =
    AllPairs-cons (λ (x y : Entry). x.id ≢ y.id) e es
    (all_weaker (λ (y : Entry). e.id < y.id) (λ (y : Entry). e.id ≢ y.id) es (λ y far same. omega (arith, far, same)) (above_all e.id es rising.1))
    (ids_differ e.id es rising.1)

record Goes_of (es : List Entry) (v : Entry) : Type 0 where
  best_of : ℕ
  full : fullest es ≡ Some best_of
  chosen : lowest es best_of ≡ Some v

goes_of : (es : List Entry) (v : Entry) → victim es ≡ Some v → Goes_of es v
goes_of es v goes = go (fullest es) refl
  where
    go : (f : Option ℕ) → fullest es ≡ f → Goes_of es v
    go None is = absurd (let no : None ≡ Some v = ap (option_and_then (lowest es)) (sym is) ∙ goes in cc)
    go (Some b) is = record { best_of = b; full = is; chosen = ap (option_and_then (lowest es)) (sym is) ∙ goes }

-- where an entry stands
record Split (es : List Entry) (v : Entry) : Type 0 where
  before : List Entry
  after : List Entry
  is : es ≡ before ++ v ∷ after

split : (es : List Entry) (v : Entry) → Contains es v → Split es v
split [] v there = absurd (omega (arith, there.1))
split (e ∷ es) v there = go there.0 there.1 there.2 (λ inside. split es v inside)
  where
    go : (k : ℕ) → k < length (e ∷ es) → get_or (e ∷ es) k v ≡ v → (Contains es v → Split es v) → Split (e ∷ es) v
    go zero inside at rest = record { before = []; after = es; is = ap (λ (x : Entry). x ∷ es) at }
    go (suc k) inside at rest =
        let one = rest (k, omega (arith, inside), at) in
        record { before = e ∷ one.before; after = one.after; is = ap (λ (xs : List Entry). e ∷ xs) one.is }

-- the ids before it are lower
ids_apart : (b : ℕ) (before : List Entry) (v : Entry) (after : List Entry) → Rising b (before ++ v ∷ after) → All (λ e. e.id < v.id) before
ids_apart b [] v after rising = All-nil (λ (e : Entry). e.id < v.id)
ids_apart b (e ∷ before) v after rising =
    All-cons (λ (x : Entry). x.id < v.id) e before
    (All-contains (λ (x : Entry). e.id < x.id) (before ++ v ∷ after) v (above_all e.id (before ++ v ∷ after) rising.1) (stands before v after))
    (ids_apart e.id before v after rising.1)
  where
    stands : (xs : List Entry) (v : Entry) (ys : List Entry) → Contains (xs ++ v ∷ ys) v
    stands [] v ys = (0, omega arith, refl)
    stands (x ∷ xs) v ys = let rest = stands xs v ys in (suc rest.0, omega (arith, rest.1), rest.2)

all_left : (P : Entry → Type 0) (xs ys : List Entry) → All P (xs ++ ys) → All P xs
all_left P [] ys all = All-nil P
all_left P (x ∷ xs) ys all = All-cons P x xs (All-head P x (xs ++ ys) all) (all_left P xs ys (All-tail P x (xs ++ ys) all))

-- those of its source that stand before it have a higher priority
sooner_ones : (v : Entry) (xs : List Entry) → All (λ e. e.id < v.id) xs → All (λ e. source e ≡ source v → priority v ≤ priority e) xs
    → All (λ e. source e ≡ source v → priority e ≡ priority v → v.id ≤ e.id) xs → All (λ e. source e ≡ source v → priority v < priority e) xs
sooner_ones v [] lower least oldest = All-nil (λ (e : Entry). source e ≡ source v → priority v < priority e)
sooner_ones v (x ∷ xs) lower least oldest =
    let id = All-head (λ (e : Entry). e.id < v.id) x xs lower in
    let at_least = All-head (λ (e : Entry). source e ≡ source v → priority v ≤ priority e) x xs least in
    let not_same = All-head (λ (e : Entry). source e ≡ source v → priority e ≡ priority v → v.id ≤ e.id) x xs oldest in
    All-cons (λ (e : Entry). source e ≡ source v → priority v < priority e) x xs
    (λ same. elim (cases_eq (priority x) (priority v)) [
      | inl equal ↦ let late = not_same same equal in absurd (omega (arith, late, id))
      | inr other ↦ let most = at_least same in omega (arith, most, other)
    ])
    (sooner_ones v xs (All-tail (λ (e : Entry). e.id < v.id) x xs lower) (All-tail (λ (e : Entry). source e ≡ source v → priority v ≤ priority e) x xs least)
    (All-tail (λ (e : Entry). source e ≡ source v → priority e ≡ priority v → v.id ≤ e.id) x xs oldest))

less_there : (v : Entry) (xs ys : List Entry) → All (λ e. e.id < v.id) xs → less_first (has_id v.id) (xs ++ v ∷ ys) ≡ xs ++ ys
less_there v [] ys lower = let same : (v.id == v.id) ≡ true = eq-eqb v.id v.id refl in rw same refl
less_there v (x ∷ xs) ys lower =
    let id = All-head (λ (e : Entry). e.id < v.id) x xs lower in
    let other : (x.id == v.id) ≡ false = ne_eqb x.id v.id (λ same. omega (arith, same, id)) in
    rw other (ap (λ (es : List Entry). x ∷ es) (less_there v xs ys (All-tail (λ (e : Entry). e.id < v.id) x xs lower)))

the_best : (es : List Entry) (b : ℕ) → fullest es ≡ Some b → IsBest (count_of es) 0 IDS b
unfolding ids
the_best es b is = best (count_of es) 0 IDS b is

pub is_share : (capacity : ℕ) (es : List Entry) (v : Entry) → Rising 0 es → All (λ e. source e < IDS) es → length es ≡ capacity + 1 → victim es ≡ Some v
    → IsShare capacity (all_held es) v.id
is_share capacity es v rising small full goes =
    let of = goes_of es v goes in
    let b = of.best_of in
    let theirs = filter (is_of b) es in
    let there : Contains theirs v = first_is_there (λ x y. nat_lt (priority x) (priority y)) theirs v of.chosen in
    let passes : is_of b v ≡ true = All-contains (λ x. is_of b x ≡ true) theirs v (filter_passes (is_of b) es) there in
    let mine : source v ≡ b = eqb-true (source v) b passes in
    let inside : Contains es v = All-contains (Contains es) theirs v (All-filter (is_of b) (Contains es) es (All-contains_itself es)) there in
    let top = the_best es b of.full in
    let least = low 0 theirs v (rising_filter 0 (is_of b) es rising) of.chosen in
    let parts = split es v inside in
    let apart = ids_apart 0 parts.before v parts.after (subst (Rising 0) parts.is rising) in
    let lowest : All (λ e. source e ≡ source v → priority v ≤ priority e) es =
    all_weaker (λ (e : Entry). is_of b e ≡ true → priority v ≤ priority e) (λ (e : Entry). source e ≡ source v → priority v ≤ priority e) es
    (λ e is same. is (eq-eqb (source e) b (same ∙ mine))) (where_passes (λ (e : Entry). priority v ≤ priority e) (is_of b) es least.lowest_of) in
    let oldest : All (λ e. source e ≡ source v → priority e ≡ priority v → v.id ≤ e.id) es =
    all_weaker (λ (e : Entry). is_of b e ≡ true → priority e ≡ priority v → v.id ≤ e.id)
    (λ (e : Entry). source e ≡ source v → priority e ≡ priority v → v.id ≤ e.id) es
    (λ e is same. is (eq-eqb (source e) b (same ∙ mine))) (where_passes (λ (e : Entry). priority e ≡ priority v → v.id ≤ e.id) (is_of b) es least.oldest_of) in
    record {
      full = all_length es ∙ full;
      before = all_held parts.before;
      entry = as_held v;
      after = all_held parts.after;
      there = ap all_held parts.is ∙ map-append as_held parts.before (v ∷ parts.after);
      named = refl;
      most = all_of_map (λ h. count_held (all_held es) h.src ≤ count_held (all_held es) (source v)) es
          (all_weaker (λ (e : Entry). source e < IDS) (λ (e : Entry). count_held (all_held es) (source e) ≤ count_held (all_held es) (source v)) es
          (λ e below. subst (λ m. count_held (all_held es) (source e) ≤ count_held (all_held es) m) (sym mine)
          (let most = top.most (source e) (omega arith) (omega (arith, below)) in omega (arith, most, count_same es (source e), count_same es b))) small);
      lowest_source = all_of_map (λ h. count_held (all_held es) h.src ≡ count_held (all_held es) (source v) → source v ≤ h.src) es
          (all_weaker (λ (e : Entry). source e < IDS)
          (λ (e : Entry). count_held (all_held es) (source e) ≡ count_held (all_held es) (source v) → source v ≤ source e) es
          (λ e below same. elim (cases_Bool (nat_lt (source e) (source v))) [
            | inl t ↦
                let less : source e < source v = grind (arith, nat_tests, t) in
                let fewer = top.less (source e) (omega arith) (omega (arith, less, mine)) in
                let at : count_held (all_held es) (source v) ≡ count_of es b = count_same es (source v) ∙ ap (count_of es) mine in
                absurd (omega (arith, fewer, same, at, count_same es (source e)))
            | inr t ↦ grind (arith, nat_tests, t)
          ]) small);
      lowest = all_of_map (λ h. h.src ≡ source v → priority v ≤ h.prio) es lowest;
      first = all_of_map (λ h. h.src ≡ source v → priority v < h.prio) parts.before
          (sooner_ones v parts.before apart
          (all_left (λ e. source e ≡ source v → priority v ≤ priority e) parts.before (v ∷ parts.after)
          (subst (All (λ e. source e ≡ source v → priority v ≤ priority e)) parts.is lowest))
          (all_left (λ e. source e ≡ source v → priority e ≡ priority v → v.id ≤ e.id) parts.before (v ∷ parts.after)
          (subst (All (λ e. source e ≡ source v → priority e ≡ priority v → v.id ≤ e.id)) parts.is oldest)));
      share =
          let fairly = fair es v (record { own_ids = ids_differ 0 es rising; from_ids = small }) goes in
          let one : length es - 1 ≡ capacity = omega (arith, full) in
          let rest : less_first (has_id v.id) es ≡ parts.before ++ parts.after =
          ap (less_first (has_id v.id)) parts.is ∙ less_there v parts.before parts.after apart in
          let left : count_held (all_held parts.before ++ all_held parts.after) (source v) ≡ count_of (less_first (has_id v.id) es) (source v) =
          ap (λ hs. count_held hs (source v)) (sym (ap all_held rest ∙ map-append as_held parts.before parts.after))
          ∙ count_same (less_first (has_id v.id) es) (source v) in
          subst (λ n. n / length (sources_held (all_held es)) ≤ count_held (all_held parts.before ++ all_held parts.after) (source v)) one
          (subst (λ (xs : List ℕ). (length es - 1) / length xs ≤ count_held (all_held parts.before ++ all_held parts.after) (source v)) (sym (sources_same es))
          (subst (λ n. (length es - 1) / length (sources es) ≤ n) (sym left) fairly));
    }
