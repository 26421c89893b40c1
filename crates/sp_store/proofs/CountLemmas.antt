-- The numbers of the entries of each source, where one comes and where one goes; and the source that has most.
use Rattle.std.proofs.Common.{◌≡◌, ◌≤◌, ◌<◌, ℕ, ◌+◌, ◌-◌, Bool, true, false, List, [], ◌∷◌, ◌++◌, length, map, set, replicate, get_or, Option, Some, refl, sym}
use Rattle.std.proofs.Common.{ap, ◌∙◌, arith, cond, nat_lt, get_or-set_same, get_or-set_other, sum, find}
use Rattle.std.specs.Prelude.{◌==◌, ◌||◌, count_by}
use Rattle.std.specs.List.{range_with_len}
use Rattle.std.proofs.lemmas.Bool.Decides.{nat_tests}
use Rattle.std.proofs.lemmas.List.{get_or-replicate, length-replicate, length-set, length_push}
use Rattle.std.proofs.lemmas.List.Elements.{All-from_get_or}
use Rattle.std.proofs.lemmas.List.Folds.{list_any-append}
use Rattle.std.proofs.lemmas.List.FromFn.{fill_by_all, get_or-range_with_len, length-range_with_len}
use Rattle.std.proofs.lemmas.List.Sums.{count_by-le-length, sum_by-append, sum_by-le, sum_by-set}
use Rattle.sp_rules.proofs.ChoiceLemmas.{first_by_push, more_first, none_before, range_push, with_last}
use Rattle.sp_rules.specs.Choices.{first_by, less_first}
use Rattle.sp_rules.specs.Store.{count_of, fullest, has_entries, ids, is_of, source}
use Rattle.sp_rules.specs.declared.store.Entry.{Entry}
use Rattle.sp_store.proofs.LeftLemmas.{one_less}
use Rattle.sp_store.specs.Sound.{IsCounted}

-- ---- counts

pub none_counted : IsCounted [] (replicate 256 0)
none_counted = record {
  places = length-replicate {A = ℕ} 256 0;
  each = λ id inside. get_or-replicate {A = ℕ} 256 id 0 0 inside;
  all = refl;
}

pub count_fits : (es : List Entry) (counts : List ℕ) (s : ℕ) → IsCounted es counts → s < 256 → get_or counts s 0 ≤ length es
count_fits es counts s counted fits = omega (arith, counted.each s fits, count_by-le-length (is_of s) es)

alone : (n : ℕ) → 0 + n ≡ n
alone n = omega arith

count_push : (p : Entry → Bool) (es : List Entry) (e : Entry) → count_by p (es ++ e ∷ []) ≡ count_by p es + cond (p e) 1 0
count_push p es e = sum_by-append (λ (x : Entry). cond (p x) 1 0) es (e ∷ []) ∙ ap (λ (n : ℕ). count_by p es + n) (alone (cond (p e) 1 0))

count_first : (p : Entry → Bool) (e : Entry) (es : List Entry) → count_by p (e ∷ es) ≡ cond (p e) 1 0 + count_by p es
count_first p e es = sum_by-append (λ (x : Entry). cond (p x) 1 0) (e ∷ []) es ∙ ap (λ (n : ℕ). n + count_by p es) (alone (cond (p e) 1 0))

-- one entry more
pub one_counted : (es : List Entry) (counts : List ℕ) (e : Entry) (s : ℕ) → IsCounted es counts → s ≡ source e → s < 256 →
    IsCounted (es ++ e ∷ []) (set counts s (get_or counts s 0 + 1))
one_counted es counts e s counted from fits = record {
  places = length-set counts s (get_or counts s 0 + 1) ∙ counted.places;
  each = λ id within. go id within (id == s) refl;
  all = omega (arith, sum_by-set (λ (x : ℕ). x) counts s (get_or counts s 0 + 1) 0 (omega (arith, counted.places)), counted.all, length_push es e);
}
  where
    go : (id : ℕ) → id < 256 → (t : Bool) → (id == s) ≡ t → get_or (set counts s (get_or counts s 0 + 1)) id 0 ≡ count_of (es ++ e ∷ []) id
    go id within true same_id =
        let same : id ≡ s = grind (arith, nat_tests) in
        let mine : (source e == id) ≡ true = grind (arith, nat_tests) in
        ap (λ (n : ℕ). get_or (set counts s (get_or counts s 0 + 1)) n 0) same ∙ get_or-set_same counts s (get_or counts s 0 + 1) 0 (omega (
          arith,
          counted.places,
        ))
        ∙ ap (λ (n : ℕ). get_or counts n 0 + 1) (sym same) ∙ ap (λ (n : ℕ). n + 1) (counted.each id within)
        ∙ ap (λ (t : Bool). count_of es id + cond t 1 0) (sym mine) ∙ sym (count_push (is_of id) es e)
    go id within false other_id =
        let apart : id ≡ s → ⊥ = λ h. grind (arith, nat_tests) in
        let not_mine : (source e == id) ≡ false = grind (arith, nat_tests) in
        let none : count_of es id ≡ count_of es id + 0 = omega arith in
        get_or-set_other counts s id (get_or counts s 0 + 1) 0 apart ∙ counted.each id within ∙ none
        ∙ ap (λ (t : Bool). count_of es id + cond t 1 0) (sym not_mine) ∙ sym (count_push (is_of id) es e)

count_less : (p test : Entry → Bool) (es : List Entry) (e : Entry) → find test es ≡ Some e → count_by p es ≡ count_by p (less_first test es) + cond (p e) 1 0
count_less p test [] e found = absurd (cc)
count_less p test (x ∷ es) e found = count_first p x es ∙ go (test x) found (λ rest. count_less p test es e rest)
  where
    go : (t : Bool) → cond t (Some x) (find test es) ≡ Some e → (find test es ≡ Some e → count_by p es ≡ count_by p (less_first test es) + cond (p e) 1 0) →
        cond (p x) 1 0 + count_by p es ≡ count_by p (cond t es (x ∷ less_first test es)) + cond (p e) 1 0
    go true found rest =
        let same : x ≡ e = cc in
        let alike = ap (λ (y : Entry). cond {A = ℕ} (p y) 1 0) same in
        omega (arith, alike)
    go false found rest = omega (arith, rest found, count_first p x (less_first test es))

-- it is counted before it goes
pub counted_once : (es : List Entry) (counts : List ℕ) (test : Entry → Bool) (e : Entry) (s : ℕ) → IsCounted es counts → find test es ≡ Some e → s
    ≡ source e → s < 256 → 1 ≤ get_or counts s 0
counted_once es counts test e s counted found from fits =
    let mine : is_of s e ≡ true = grind (arith, nat_tests) in
    let more : count_of es s ≡ count_of (less_first test es) s + 1 =
    count_less (is_of s) test es e found ∙ ap (λ (t : Bool). count_of (less_first test es) s + cond t 1 0) mine in
    omega (arith, more, counted.each s fits)

-- one entry less
pub one_uncounted : (es : List Entry) (counts : List ℕ) (test : Entry → Bool) (e : Entry) (s : ℕ) → IsCounted es counts → find test es ≡ Some e → s
    ≡ source e → s < 256 → IsCounted (less_first test es) (set counts s (get_or counts s 0 - 1))
one_uncounted es counts test e s counted found from fits = record {
  places = length-set counts s (get_or counts s 0 - 1) ∙ counted.places;
  each = λ id within. go id within (id == s) refl;
  all = omega (
    arith,
    sum_by-set (λ (x : ℕ). x) counts s (get_or counts s 0 - 1) 0 (omega (arith, counted.places)),
    counted.all,
    one_less test es e found,
    counted_once es counts test e s counted found from fits,
  );
}
  where
    go : (id : ℕ) → id < 256 → (t : Bool) → (id == s) ≡ t → get_or (set counts s (get_or counts s 0 - 1)) id 0 ≡ count_of (less_first test es) id
    go id within true same_id =
        let same : id ≡ s = grind (arith, nat_tests) in
        let mine : is_of id e ≡ true = grind (arith, nat_tests) in
        let more : count_of es id ≡ count_of (less_first test es) id + 1 =
        count_less (is_of id) test es e found ∙ ap (λ (t : Bool). count_of (less_first test es) id + cond t 1 0) mine in
        let left : get_or counts id 0 - 1 ≡ count_of (less_first test es) id = omega (arith, more, counted.each id within) in
        ap (λ (n : ℕ). get_or (set counts s (get_or counts s 0 - 1)) n 0) same ∙ get_or-set_same counts s (get_or counts s 0 - 1) 0 (omega (
          arith,
          counted.places,
        ))
        ∙ ap (λ (n : ℕ). get_or counts n 0 - 1) (sym same) ∙ left
    go id within false other_id =
        let apart : id ≡ s → ⊥ = λ h. grind (arith, nat_tests) in
        let not_mine : is_of id e ≡ false = grind (arith, nat_tests) in
        let same : count_of es id ≡ count_of (less_first test es) id + 0 =
        count_less (is_of id) test es e found ∙ ap (λ (t : Bool). count_of (less_first test es) id + cond t 1 0) not_mine in
        get_or-set_other counts s id (get_or counts s 0 - 1) 0 apart ∙ counted.each id within ∙ (omega (arith, same))

-- ---- the fullest

abbrev pub fuller : List Entry → ℕ → ℕ → Bool
fuller es a b = nat_lt (count_of es b) (count_of es a)

fuller_more : (es : List Entry) (id best : ℕ) → Some best ≡ first_by (fuller es) (range_with_len 0 id) → first_by (fuller es)
    (range_with_len 0 (id + 1)) ≡ Some (cond (nat_lt (count_of es best) (count_of es id)) id best)
fuller_more es id best so_far =
    ap (first_by (fuller es)) (range_push 0 id ∙ ap (λ (n : ℕ). range_with_len 0 id ++ n ∷ []) (let e : 0 + id ≡ id = omega arith in e))
    ∙ first_by_push (fuller es) (more_first (count_of es)) (range_with_len 0 id) id
    ∙ ap (λ (b : Option ℕ). Some (with_last (fuller es) b id)) (sym so_far)

-- one id more, which has more entries than the best so far, or doesn't
pub fuller_yes : (es : List Entry) (id best : ℕ) → Some best ≡ first_by (fuller es) (range_with_len 0 id) → count_of es best < count_of es id →
    Some id ≡ first_by (fuller es) (range_with_len 0 (id + 1))
fuller_yes es id best so_far more =
    let yes : nat_lt (count_of es best) (count_of es id) ≡ true = grind (arith, nat_tests) in
    sym (fuller_more es id best so_far ∙ ap (λ (t : Bool). Some (cond t id best)) yes)

pub fuller_no : (es : List Entry) (id best : ℕ) → Some best ≡ first_by (fuller es) (range_with_len 0 id) → count_of es id ≤ count_of es best →
    Some best ≡ first_by (fuller es) (range_with_len 0 (id + 1))
fuller_no es id best so_far less =
    let no : nat_lt (count_of es best) (count_of es id) ≡ false = grind (arith, nat_tests) in
    sym (fuller_more es id best so_far ∙ ap (λ (t : Bool). Some (cond t id best)) no)

pub fullest_of_all : (es : List Entry) (id best : ℕ) → id ≡ 256 → Some best ≡ first_by (fuller es) (range_with_len 0 id) → Some best ≡ fullest es
unfolding ids
fullest_of_all es id best all so_far = so_far ∙ ap (λ (n : ℕ). first_by (fuller es) (range_with_len 0 n)) all

not_below : (m n : ℕ) → nat_lt m n ≡ false → n ≤ m
not_below m n not = grind (arith, nat_tests)

is_below : (m n : ℕ) → nat_lt m n ≡ true → m < n
is_below m n below = grind (arith, nat_tests)

-- the fullest has entries, where there are any
pub fullest_has : (es : List Entry) (counts : List ℕ) (id best : ℕ) → length counts ≡ 256 → ((k : ℕ) → k < 256 → get_or counts k 0 ≡ count_of es k) →
    sum counts ≡ length es →
    id ≡ 256 → Some best ≡ first_by (fuller es) (range_with_len 0 id) → 0 < length es → 0 < count_of es best
fullest_has es counts id best places each all end is some = go (nat_lt 0 (count_of es best)) refl
  where
    chosen : first_by (fuller es) (range_with_len 0 256) ≡ Some best
    chosen = ap (λ (n : ℕ). first_by (fuller es) (range_with_len 0 n)) (sym end) ∙ sym is

    at_most : (k : ℕ) → k < 256 → count_of es k ≤ count_of es best
    at_most k within =
        let place : get_or (range_with_len 0 256) k 0 ≡ k = get_or-range_with_len 0 256 k 0 within ∙ (let e : 0 + k ≡ k = omega arith in e) in
        not_below (count_of es best) (count_of es k) (ap (λ (n : ℕ). fuller es n best) (sym place) ∙ none_before (fuller es)
        (more_first (count_of es)) (range_with_len 0 256) best 0 chosen k (rw (length-range_with_len 0 256) within))

    none : count_of es best ≡ 0 → sum counts ≤ 0
    none zero_best = omega (
      arith,
      sum_by-le (λ (x : ℕ). x) 0 counts (All-from_get_or (λ (x : ℕ). x ≤ 0) counts 0 (λ k within. omega (
        arith,
        each k (omega (arith, places)),
        at_most k (omega (arith, places)),
        zero_best,
      ))),
    )

    go : (t : Bool) → nat_lt 0 (count_of es best) ≡ t → 0 < count_of es best
    go true e = is_below 0 (count_of es best) e
    go false e = absurd (let zero_best : count_of es best ≡ 0 = omega (arith, not_below 0 (count_of es best) e) in omega (arith, none zero_best, all, some))

-- ---- which sources have entries

-- the sources of these entries were marked
pub record IsFlagged (es : List Entry) (flags : List Bool) : Type 0 where
  pub places : length flags ≡ 256
  pub each : (id : ℕ) → id < 256 → get_or flags id false ≡ has_entries es id

pub none_flagged : IsFlagged [] (replicate 256 false)
none_flagged = record {
  places = length-replicate {A = Bool} 256 false;
  each = λ id inside. get_or-replicate {A = Bool} 256 id false false inside;
}

has_one_more : (es : List Entry) (e : Entry) (id : ℕ) → has_entries (es ++ e ∷ []) id ≡ (has_entries es id || is_of id e)
has_one_more es e id = list_any-append (is_of id) es (e ∷ []) ∙ ap (λ (b : Bool). has_entries es id || b) (only (is_of id e))
  where
    only : (b : Bool) → (b || false) ≡ b
    only true = refl
    only false = refl

or_true : (b : Bool) → true ≡ (b || true)
or_true true = refl
or_true false = refl

or_false : (b : Bool) → b ≡ (b || false)
or_false true = refl
or_false false = refl

-- one more, which is marked now
pub one_flagged : (es : List Entry) (flags : List Bool) (e : Entry) (s : ℕ) → IsFlagged es flags → s ≡ source e → s < 256 →
    IsFlagged (es ++ e ∷ []) (set flags s true)
one_flagged es flags e s so_far from fits = record {
  places = length-set flags s true ∙ so_far.places;
  each = λ id within. go id within (id == s) refl;
}
  where
    go : (id : ℕ) → id < 256 → (t : Bool) → (id == s) ≡ t → get_or (set flags s true) id false ≡ has_entries (es ++ e ∷ []) id
    go id within true same_id =
        let same : id ≡ s = grind (arith, nat_tests) in
        let mine : (source e == id) ≡ true = grind (arith, nat_tests) in
        ap (λ (n : ℕ). get_or (set flags s true) n false) same ∙ get_or-set_same flags s true false (omega (arith, so_far.places))
        ∙ or_true (has_entries es id) ∙ ap (λ (b : Bool). has_entries es id || b) (sym mine) ∙ sym (has_one_more es e id)
    go id within false other_id =
        let apart : id ≡ s → ⊥ = λ h. grind (arith, nat_tests) in
        let not_mine : (source e == id) ≡ false = grind (arith, nat_tests) in
        get_or-set_other flags s id true false apart ∙ so_far.each id within ∙ or_false (has_entries es id)
        ∙ ap (λ (b : Bool). has_entries es id || b) (sym not_mine) ∙ sym (has_one_more es e id)

-- one more, of a source that was marked before
pub still_flagged : (es : List Entry) (flags : List Bool) (e : Entry) (s : ℕ) → IsFlagged es flags → s ≡ source e → s < 256 → get_or flags s false ≡ true →
    IsFlagged (es ++ e ∷ []) flags
still_flagged es flags e s so_far from fits marked = record { places = so_far.places; each = λ id within. go id within (id == s) refl }
  where
    go : (id : ℕ) → id < 256 → (t : Bool) → (id == s) ≡ t → get_or flags id false ≡ has_entries (es ++ e ∷ []) id
    go id within true same_id =
        let same : id ≡ s = grind (arith, nat_tests) in
        let has : has_entries es id ≡ true = sym (so_far.each id within) ∙ ap (λ (n : ℕ). get_or flags n false) same ∙ marked in
        ap (λ (n : ℕ). get_or flags n false) same ∙ marked ∙ ap (λ (b : Bool). b || is_of id e) (sym has) ∙ sym (has_one_more es e id)
    go id within false other_id =
        let not_mine : (source e == id) ≡ false = grind (arith, nat_tests) in
        so_far.each id within ∙ or_false (has_entries es id) ∙ ap (λ (b : Bool). has_entries es id || b) (sym not_mine)
        ∙ sym (has_one_more es e id)

pub all_flagged : (es : List Entry) (flags : List Bool) → IsFlagged es flags → flags ≡ map (has_entries es) ids
unfolding ids
all_flagged es flags so_far = fill_by_all (has_entries es) flags 256 false so_far.places so_far.each
