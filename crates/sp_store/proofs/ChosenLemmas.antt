-- The wanted one of a source's entries, entry by entry.
use Rattle.std.proofs.Common.{◌≡◌, ◌<◌, ℕ, true, false, List, [], ◌∷◌, ◌++◌, Option, Some, None, Bor, refl, sym, ap, ◌∙◌, arith}
use Rattle.std.specs.Prelude.{filter, IsSome}
use Rattle.std.specs.Option.{option_and_then, option_copied}
use Rattle.std.proofs.lemmas.List.{append-nil}
use Rattle.std.proofs.lemmas.List.Elements.{filter-append}
use Rattle.std.proofs.lemmas.List.Sums.{length-filter}
use Rattle.sp_rules.proofs.ChoiceLemmas.{IsOrder, first_by_push, fewer_first, more_first, some_first, with_last}
use Rattle.sp_rules.specs.Choices.{first_by}
use Rattle.sp_rules.specs.Store.{count_of, fullest, is_of, lowest, priority, victim}
use Rattle.sp_rules.specs.declared.store.Entry.{Entry}
use Rattle.sp_store.specs.Wanted.{choice, comes_before, goes_before}
use Rattle.sp_store.specs.declared.choice.Wanted.{Wanted}
use Rattle.sp_store.specs.declared.choice.Wanted.TheVariants.{HighestPriority, LowestPriority}

pub wanted_order : (wanted : Wanted) → IsOrder (goes_before wanted)
wanted_order LowestPriority = fewer_first priority
wanted_order HighestPriority = more_first priority

-- one entry more of the source
one_more : (wanted : Wanted) (es : List Entry) (src : ℕ) (e : Entry) → is_of src e ≡ true →
    choice wanted (es ++ e ∷ []) src ≡ Some (with_last (goes_before wanted) (choice wanted es src) e)
one_more wanted es src e mine =
    ap (first_by (goes_before wanted)) (filter-append (is_of src) es (e ∷ []) ∙ rw mine refl)
    ∙ first_by_push (goes_before wanted) (wanted_order wanted) (filter (is_of src) es) e

-- it goes before the best so far
pub better_chosen : (wanted : Wanted) (es : List Entry) (src : ℕ) (e : Entry) (best : Option Entry) →
    is_of src e ≡ true → best ≡ choice wanted es src → comes_before wanted (Some e) best ≡ true → Some e ≡ choice wanted (es ++ e ∷ []) src
better_chosen wanted es src e best mine so_far better =
    go best better
    ∙ ap (λ (b : Option Entry). Some (with_last (goes_before wanted) b e)) so_far ∙ sym (one_more wanted es src e mine)
  where
    go : (b : Option Entry) → comes_before wanted (Some e) b ≡ true → Some e ≡ Some (with_last (goes_before wanted) b e)
    go None better = refl
    go (Some other) better = rw better refl

-- it doesn't
pub best_kept : (wanted : Wanted) (es : List Entry) (src : ℕ) (e : Entry) (best : Option Entry) → is_of src e
    ≡ true → best ≡ choice wanted es src → comes_before wanted (Some e) best ≡ false → best ≡ choice wanted (es ++ e ∷ []) src
best_kept wanted es src e best mine so_far not =
    go best not ∙ ap (λ (b : Option Entry). Some (with_last (goes_before wanted) b e)) so_far
    ∙ sym (one_more wanted es src e mine)
  where
    go : (b : Option Entry) → comes_before wanted (Some e) b ≡ false → b ≡ Some (with_last (goes_before wanted) b e)
    go None not = absurd (cc)
    go (Some other) not = rw not refl

-- an entry of another source
pub other_kept : (wanted : Wanted) (es : List Entry) (src : ℕ) (e : Entry) → is_of src e ≡ false →
    choice wanted (es ++ e ∷ []) src ≡ choice wanted es src
other_kept wanted es src e not =
    ap (first_by (goes_before wanted)) (filter-append (is_of src) es (e ∷ []) ∙ rw not (append-nil (filter (is_of src) es)))

-- the victim is the lowest of the fullest
pub victim_is : (es : List Entry) (src : ℕ) → Some src ≡ fullest es → lowest es src ≡ victim es
victim_is es src is = ap (option_and_then (lowest es)) is

-- there is one where the source has entries
pub some_chosen : (wanted : Wanted) (es : List Entry) (src : ℕ) (found : Option (Bor Entry)) → 0 < count_of es src → option_copied found
    ≡ choice wanted es src → IsSome found
some_chosen wanted es src found some is = go found is (some_first (goes_before wanted) (filter (is_of src) es) (omega (
  arith,
  length-filter (is_of src) es,
  some,
)))
  where
    go : (f : Option (Bor Entry)) → option_copied f ≡ choice wanted es src → (x : Entry) × (choice wanted es src ≡ Some x) → IsSome f
    go None none there = absurd (let no : None ≡ Some there.0 = none ∙ there.1 in cc)
    go (Some place) is there = refl
