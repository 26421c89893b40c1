-- Lists that lose elements, and that a full store loses exactly one entry.
use Rattle.std.proofs.Common.{◌≡◌, ◌<◌, ◌≤◌, ℕ, suc, ◌+◌, Bool, true, false, List, [], ◌∷◌, ◌++◌, length, get_or, filter, Option, Some, None, refl, sym, ap}
use Rattle.std.proofs.Common.{◌∙◌, arith, cond, length-append, nat_lt}
use Rattle.std.specs.List.{All, list_any}
use Rattle.std.proofs.lemmas.Bool.Decides.{nat_tests}
use Rattle.std.proofs.lemmas.List.Elements.{All-cons, All-head, All-tail}
use Rattle.std.proofs.lemmas.List.FromFn.{get_or-range_with_len, length-range_with_len}
use Rattle.std.proofs.lemmas.List.Sums.{length-filter}
use Rattle.sp_rules.proofs.ChoiceLemmas.{more_first, none_before, some_first}
use Rattle.sp_rules.specs.Choices.{first_by, less_first, sooner}
use Rattle.sp_rules.specs.Store.{arriving, count_of, fullest, has_id, ids, is_of, priority, source, victim}
use Rattle.sp_rules.specs.declared.store.Entry.{Entry}
use Rattle.sp_rules.specs.declared.store.TheConstants.{IDS}
use Rattle.laws_node.specs.PriorityLaws.{AFullStoreHasAVictim}
use Rattle.laws_node.proofs.Tables.{cond_either, cond_where, or_right, or_where}

-- ---- lists that lose elements

-- what holds of all of a list holds of what is left of it
pub all_filter : {X : Type 0} (P : X → Type 0) (test : X → Bool) (xs : List X) → All P xs → All P (filter test xs)
all_filter P test [] all = all
all_filter P test (x ∷ xs) all =
    let rest = all_filter P test xs (All-tail P x xs all) in
    cond_either (All P) (test x) (x ∷ filter test xs) (filter test xs) (All-cons P x (filter test xs) (All-head P x xs all) rest) rest

-- what is left of a list isn't longer
pub filter_shorter : {X : Type 0} (test : X → Bool) (xs : List X) → length (filter test xs) ≤ length xs
filter_shorter test [] = omega arith
filter_shorter test (x ∷ xs) =
    let rest = filter_shorter test xs in
    cond_either (λ ys. length ys ≤ suc (length xs)) (test x) (x ∷ filter test xs) (filter test xs) (omega (arith, rest)) (omega (arith, rest))

-- what holds of all of a list holds of it without the first that passes
pub all_less_first : {X : Type 0} (P : X → Type 0) (test : X → Bool) (xs : List X) → All P xs → All P (less_first test xs)
all_less_first P test [] all = all
all_less_first P test (x ∷ xs) all =
    cond_either (All P) (test x) xs (x ∷ less_first test xs) (All-tail P x xs all)
    (All-cons P x (less_first test xs) (All-head P x xs all) (all_less_first P test xs (All-tail P x xs all)))

-- a list without the first that passes isn't longer
pub less_first_shorter : {X : Type 0} (test : X → Bool) (xs : List X) → length (less_first test xs) ≤ length xs
less_first_shorter test [] = omega arith
less_first_shorter test (x ∷ xs) =
    let rest = less_first_shorter test xs in
    cond_either (λ ys. length ys ≤ suc (length xs)) (test x) xs (x ∷ less_first test xs) (omega arith) (omega (arith, rest))

-- one that passes leaves, and no other
pub less_one : {X : Type 0} (test : X → Bool) (xs : List X) → list_any test xs ≡ true → length (less_first test xs) + 1 ≡ length xs
less_one test [] some = absurd (cc)
less_one test (x ∷ xs) some =
    cond_where (λ ys. length ys + 1 ≡ suc (length xs)) (test x) xs (x ∷ less_first test xs) (λ is. omega arith)
    (λ is. or_where (test x) (list_any test xs) (λ passes. absurd (let e = rw is at passes in cc))
    (λ later. let rest = less_one test xs later in omega (arith, rest)) some)

-- ---- the entry that goes is there

-- what is chosen is one of the list
pub chosen_is_there : {X : Type 0} (R : X → X → Bool) (test : X → Bool) (xs : List X) (b : X) → first_by R xs ≡ Some b → test b ≡ true → list_any test xs ≡ true
chosen_is_there R test [] b is passes = absurd (cc)
chosen_is_there {X} R test (x ∷ xs) b is passes = go (first_by R xs) refl (λ c chosen. chosen_is_there R test xs c chosen)
  where
    here : x ≡ b → list_any test (x ∷ xs) ≡ true
    here same = let first : test x ≡ true = ap test same ∙ passes in rw first refl

    of_two : (c : X) (t : Bool) → R c x ≡ t → sooner R x (Some c) ≡ b → (test c ≡ true → list_any test xs ≡ true) → list_any test (x ∷ xs) ≡ true
    of_two c true goes chosen rest =
        let same : c ≡ b = rw goes at chosen in
        or_right (test x) (list_any test xs) (rest (ap test same ∙ passes))
    of_two c false goes chosen rest = here (rw goes at chosen)

    go : (f : Option X) → first_by R xs ≡ f → ((c : X) → first_by R xs ≡ Some c → test c ≡ true → list_any test xs ≡ true) → list_any test (x ∷ xs) ≡ true
    go None none rest =
        let chosen : Some (sooner R x None) ≡ Some b = rw none at is in
        here (let same : x ≡ b = cc in same)
    go (Some c) some rest =
        let chosen : Some (sooner R x (Some c)) ≡ Some b = rw some at is in
        of_two c (R c x) refl (let same : sooner R x (Some c) ≡ b = cc in same) (rest c some)

in_filter : {X : Type 0} (test kept : X → Bool) (xs : List X) → list_any test (filter kept xs) ≡ true → list_any test xs ≡ true
in_filter test kept [] some = some
in_filter test kept (x ∷ xs) some =
    cond_where (λ ys. list_any test ys ≡ true → list_any test (x ∷ xs) ≡ true) (kept x) (x ∷ filter kept xs) (filter kept xs)
    (λ is there. or_where (test x) (list_any test (filter kept xs)) (λ passes. rw passes refl)
    (λ later. or_right (test x) (list_any test xs) (in_filter test kept xs later)) there)
    (λ is later. or_right (test x) (list_any test xs) (in_filter test kept xs later))
    some

-- ---- the source that has most

-- a source that has an entry has a count
one_left : {X : Type 0} (test : X → Bool) (xs : List X) (x : X) → test x ≡ true → 1 ≤ length (filter test (xs ++ x ∷ []))
one_left test [] x passes = rw passes (omega arith)
one_left test (y ∷ xs) x passes =
    let rest = one_left test xs x passes in
    cond_either (λ ys. 1 ≤ length ys) (test y) (y ∷ filter test (xs ++ x ∷ [])) (filter test (xs ++ x ∷ [])) (omega arith) rest

count_last : (es : List Entry) (e : Entry) → 1 ≤ count_of (es ++ e ∷ []) (source e)
count_last es e =
    let same : is_of (source e) e ≡ true = grind (arith, nat_tests) in
    let left = one_left (is_of (source e)) es e same in
    omega (arith, left, length-filter (is_of (source e)) (es ++ e ∷ []))

record HasMost (es : List Entry) : Type 0 where
  best : ℕ
  is : fullest es ≡ Some best
  most : (id : ℕ) → id < IDS → count_of es id ≤ count_of es best

has_most : (es : List Entry) → HasMost es
unfolding ids
has_most es =
    let some = some_first (λ a b. nat_lt (count_of es b) (count_of es a)) ids (omega (arith, length-range_with_len 0 IDS)) in
    record {
      best = some.0;
      is = some.1;
      most = λ id below.
          let none : nat_lt (count_of es some.0) (count_of es (get_or ids id 0)) ≡ false =
          none_before (λ a b. nat_lt (count_of es b) (count_of es a)) (more_first (count_of es)) ids some.0 0 some.1 id
          (omega (arith, below, length-range_with_len 0 IDS)) in
          let at : get_or ids id 0 ≡ id = get_or-range_with_len 0 IDS id 0 below ∙ (let e : 0 + id ≡ id = omega arith in e) in
          not_more (count_of es some.0) (count_of es id) (rw at at none);
    }
  where
    not_more : (m n : ℕ) → nat_lt m n ≡ false → n ≤ m
    not_more m n is = grind (arith, nat_tests)

-- the entry that goes where one more came than there is room for
pub record Goes (es : List Entry) : Type 0 where
  pub entry : Entry
  pub is : victim es ≡ Some entry
  pub there : list_any (has_id entry.id) es ≡ true

-- of entries with a new one, one can go
pub one_goes : (es : List Entry) (new : Entry) → source new < IDS → Goes (es ++ new ∷ [])
one_goes es new small =
    let all = es ++ new ∷ [] in
    let most = has_most all in
    let counted : 1 ≤ count_of all most.best = let one = count_last es new in let more = most.most (source new) small in omega (arith, one, more) in
    let some = some_first (λ a b. nat_lt (priority a) (priority b)) (filter (is_of most.best) all)
    (omega (arith, counted, length-filter (is_of most.best) all)) in
    let passes : has_id some.0.id some.0 ≡ true = grind (arith, nat_tests) in
    record {
      entry = some.0;
      is = rw most.is some.1;
      there = in_filter (has_id some.0.id) (is_of most.best) all
          (chosen_is_there (λ a b. nat_lt (priority a) (priority b)) (has_id some.0.id) (filter (is_of most.best) all) some.0 some.1 passes);
    }

-- ---- the law

unless : (t : Bool) (o : Option Entry) (e : Entry) → o ≡ Some e → cond t o None ≡ None → t ≡ false
unless true o e some none = absurd (let wrong = sym some ∙ none in cc)
unless false o e some none = refl

pub a_full_store_has_a_victim : AFullStoreHasAVictim
a_full_store_has_a_victim s kept small = (
  λ none.
      let room : nat_lt s.capacity (length (arriving s kept)) ≡ false =
      unless (nat_lt s.capacity (length (arriving s kept))) (victim (arriving s kept)) goes.entry goes.is none in
      grind (arith, nat_tests, one_more, room),
  λ room.
      let free : nat_lt s.capacity (length (arriving s kept)) ≡ false = grind (arith, nat_tests, one_more, room) in
      rw free refl,
)
  where
    goes : Goes (arriving s kept)
    goes = one_goes s.entries (record { id = s.last + 1; kept = kept }) small

    one_more : length (arriving s kept) ≡ length s.entries + 1
    one_more = length-append s.entries _
