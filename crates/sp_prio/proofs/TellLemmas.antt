-- Effects that are told one after another.
use Rattle.std.proofs.Common.{◌≡◌, ◌≤◌, ◌<◌, ℕ, suc, ◌+◌, Bool, true, false, cond, List, [], ◌∷◌, ◌++◌, length, map, get_or, drop, Option, Some, None, refl}
use Rattle.std.proofs.Common.{sym, ap, ◌∙◌, arith, drop-cons, length-append}
use Rattle.std.specs.Prelude.{filter, find, not, sum_by}
use Rattle.std.proofs.lemmas.List.Sums.{count_by-le-length, length-filter, sum_by-cons}
use Rattle.std.proofs.lemmas.List.Concat.{flat_map-cons}
use Rattle.std.specs.List.{flat_map}
use Rattle.sp_msg.specs.Caused.{Caused}
use Rattle.sp_msg.specs.declared.effect.Effect.{Effect}
use Rattle.sp_base.specs.declared.id.NodeId.{NodeId}
use Rattle.sp_msg.specs.declared.body.Body.{Body}
use Rattle.sp_msg.specs.declared.body.Body.TheVariants as bodies
use Rattle.sp_msg.specs.declared.effect.Effect.TheVariants as effects
use Rattle.sp_msg.specs.declared.effect.Why.{Why}
use Rattle.sp_msg.specs.declared.effect.Why.TheVariants as whys
use Rattle.sp_msg.specs.declared.kept.Kept.{Kept}
use Rattle.sp_rules.specs.Choices.{less_first}
use Rattle.sp_rules.specs.PrioPeer.{PrioPeer, given_effects, goes_to, gone, gone_effects, stored}
use Rattle.sp_rules.specs.Store.{Store, evicted, leaver, leavers, less_leaver, less_leavers}
use Rattle.sp_rules.specs.declared.store.Entry.{Entry}
use Rattle.sp_rules.specs.Told.{told}
use Rattle.sp_store.specs.Leaving.{leaves}
use Rattle.sp_store.specs.declared.leaving.Leaving.TheVariants as leavings
use Rattle.sp_rules.proofs.ToldLemmas.{told_both, told_none}

-- ---- all that pass go, the first of them first

pub pass_first : {X : Type 0} (p : X → Bool) (xs : List X) (x : X) → Some x ≡ find p xs → filter p xs ≡ x ∷ filter p (less_first p xs)
pass_first p [] x is = absurd (cc)
pass_first {X} p (y ∷ ys) x is = go (p y) refl (pass_first p ys x)
  where
    go : (t : Bool) → p y ≡ t → (Some x ≡ find p ys → filter p ys ≡ x ∷ filter p (less_first p ys)) → filter p (y ∷ ys) ≡ x ∷ filter p (less_first p (y ∷ ys))
    go true passes rest =
        let same : x ≡ y = let e : Some x ≡ Some y = rw passes at is in cc in
        rw passes (ap (λ (z : X). z ∷ filter p ys) (sym same))
    go false fails rest =
        let later : Some x ≡ find p ys = rw fails at is in
        rw (fails, fails) (rest later)

pub fail_stay : {X : Type 0} (p : X → Bool) (xs : List X) → filter (λ x. not (p x)) (less_first p xs) ≡ filter (λ x. not (p x)) xs
fail_stay p [] = refl
fail_stay {X} p (y ∷ ys) = go (p y) refl (fail_stay p ys)
  where
    go : (t : Bool) → p y ≡ t → filter (λ x. not (p x)) (less_first p ys) ≡ filter (λ x. not (p x)) ys → filter (λ x. not (p x))
        (less_first p (y ∷ ys)) ≡ filter (λ x. not (p x)) (y ∷ ys)
    go true passes rest = rw passes refl
    go false fails rest = rw (fails, fails) (ap (λ (zs : List X). y ∷ zs) rest)

pub none_left : {X : Type 0} (p : X → Bool) (xs : List X) → None ≡ find p xs → filter p xs ≡ []
none_left p [] none = refl
none_left {X} p (y ∷ ys) none = go (p y) refl (none_left p ys)
  where
    go : (t : Bool) → p y ≡ t → (None ≡ find p ys → filter p ys ≡ []) → filter p (y ∷ ys) ≡ []
    go true passes rest = absurd (let e : None ≡ Some y = rw passes at none in cc)
    go false fails rest = rw fails (rest (rw fails at none))

pub all_stay : {X : Type 0} (p : X → Bool) (xs : List X) → None ≡ find p xs → xs ≡ filter (λ x. not (p x)) xs
all_stay p [] none = refl
all_stay {X} p (y ∷ ys) none = go (p y) refl (all_stay p ys)
  where
    go : (t : Bool) → p y ≡ t → (None ≡ find p ys → ys ≡ filter (λ x. not (p x)) ys) → (y ∷ ys) ≡ filter (λ x. not (p x)) (y ∷ ys)
    go true passes rest = absurd (let e : None ≡ Some y = rw passes at none in cc)
    go false fails rest = rw fails (ap (λ (zs : List X). y ∷ zs) (rest (rw fails at none)))

pub nothing_less : {X : Type 0} (p : X → Bool) (xs : List X) → None ≡ find p xs → less_first p xs ≡ xs
nothing_less p [] none = refl
nothing_less {X} p (y ∷ ys) none = go (p y) refl (nothing_less p ys)
  where
    go : (t : Bool) → p y ≡ t → (None ≡ find p ys → less_first p ys ≡ ys) → less_first p (y ∷ ys) ≡ y ∷ ys
    go true passes rest = absurd (let e : None ≡ Some y = rw passes at none in cc)
    go false fails rest = rw fails (ap (λ (zs : List X). y ∷ zs) (rest (rw fails at none)))

-- ---- a store that entries leave

-- one entry went
pub one_left : (p : Entry → Bool) (s new : Store) (e : Entry) → Some e ≡ leaver p s → new ≡ less_leaver p s → leavers p s ≡ e ∷ leavers p new
one_left p s new e is after = pass_first p s.entries e is ∙ ap (λ (t : Store). e ∷ leavers p t) (sym after)

pub others_stay : (p : Entry → Bool) (s new : Store) → new ≡ less_leaver p s → less_leavers p new ≡ less_leavers p s
others_stay p s new after =
    ap (λ (t : Store). less_leavers p t) after
    ∙ ap (λ (es : List Entry). let t : Store = record { capacity = s.capacity; last = s.last; entries = es } in t) (fail_stay p s.entries)

pub told_left : (p : Entry → Bool) (why : Why) (c out : Caused) (s new : Store) (place : ℕ) (e : Entry) → Some e ≡ leaver p s → new ≡ less_leaver p s
    → out ≡ told c (effects.Gone place e.id why ∷ [])
    → told out (gone_effects place why (leavers p new)) ≡ told c (gone_effects place why (leavers p s))
told_left p why c out s new place e is after tells =
    ap (λ (d : Caused). told d (gone_effects place why (leavers p new))) tells
    ∙ told_both c (effects.Gone place e.id why ∷ []) (gone_effects place why (leavers p new))
    ∙ ap (λ (es : List Entry). told c (gone_effects place why es)) (sym (one_left p s new e is after))

-- none is left
pub all_left : (p : Entry → Bool) (s new : Store) → None ≡ leaver p s → new ≡ less_leaver p s → new ≡ less_leavers p s
all_left p s new none after =
    after ∙ ap (λ (es : List Entry). let t : Store = record { capacity = s.capacity; last = s.last; entries = es } in t)
    (nothing_less p s.entries none ∙ all_stay p s.entries none)

pub told_all : (p : Entry → Bool) (why : Why) (c : Caused) (s : Store) (place : ℕ) → None ≡ leaver p s → told c (gone_effects place why (leavers p s)) ≡ c
told_all p why c s place none = ap (λ (es : List Entry). told c (gone_effects place why es)) (none_left p s.entries none) ∙ told_none c

-- ---- who leaves, by two tests that say the same

same_pass : (p q : Entry → Bool) → ((e : Entry) → p e ≡ q e) → (es : List Entry) → filter p es ≡ filter q es
same_pass p q same [] = refl
same_pass p q same (e ∷ es) = rw (same e) (ap (λ (rest : List Entry). cond (q e) (e ∷ rest) rest) (same_pass p q same es))

same_fail : (p q : Entry → Bool) → ((e : Entry) → p e ≡ q e) → (es : List Entry) → filter (λ e. not (p e)) es ≡ filter (λ e. not (q e)) es
same_fail p q same es = same_pass (λ e. not (p e)) (λ e. not (q e)) (λ e. ap not (same e)) es

pub same_leavers : (p q : Entry → Bool) → ((e : Entry) → p e ≡ q e) → (s : Store) → leavers p s ≡ leavers q s
same_leavers p q same s = same_pass p q same s.entries

pub same_left : (p q : Entry → Bool) → ((e : Entry) → p e ≡ q e) → (s : Store) → less_leavers p s ≡ less_leavers q s
same_left p q same s =
    ap (λ (es : List Entry). let t : Store = record { capacity = s.capacity; last = s.last; entries = es } in t) (same_fail p q same s.entries)

-- no more leave than there are
pub few_leave : (p : Entry → Bool) (s : Store) → length (leavers p s) ≤ length s.entries
few_leave p s = let counted = length-filter p s.entries in let few = count_by-le-length p s.entries in omega (arith, counted, few)

-- all are counted where all leave
all_leave : (p : Entry → Bool) → ((e : Entry) → p e ≡ true) → (es : List Entry) → filter p es ≡ es
all_leave p all [] = refl
all_leave p all (e ∷ es) = rw (all e) (ap (λ (rest : List Entry). e ∷ rest) (all_leave p all es))

pub all_counted : (es : List Entry) → length (filter (leaves leavings.All) es) ≡ length es
all_counted es = ap (λ (xs : List Entry). length xs) (all_leave (leaves leavings.All) (λ e. refl) es)

-- ---- what each row tells

-- the next element, and those after it
pub drop_next : {X : Type 0} (xs : List X) (i : ℕ) (x : X) → i < length xs → x ≡ get_or xs i x → drop i xs ≡ x ∷ drop (i + 1) xs
drop_next {X} xs i x inside is = drop-cons xs i x inside ∙ ap (λ (y : X). y ∷ drop (suc i) xs) (sym is) ∙ ap (λ (n : ℕ). x ∷ drop n xs)
    (let e : suc i ≡ i + 1 = omega arith in e)

pub tell_next : {X : Type 0} (f : X → List Effect) (c out : Caused) (xs : List X) (i : ℕ) (x : X) → i < length xs → x ≡ get_or xs i x → out
    ≡ told c (f x) → told out (flat_map f (drop (i + 1) xs)) ≡ told c (flat_map f (drop i xs))
tell_next {X} f c out xs i x inside is tells =
    ap (λ (d : Caused). told d (flat_map f (drop (i + 1) xs))) tells ∙ told_both c (f x) (flat_map f (drop (i + 1) xs))
    ∙ ap (told c) (sym (flat_map-cons f x (drop (i + 1) xs)) ∙ ap (flat_map f) (sym (drop_next xs i x inside is)))

pub sum_next : {X : Type 0} (f : X → ℕ) (xs : List X) (i : ℕ) (x : X) → i < length xs → x ≡ get_or xs i x → sum_by f (drop i xs)
    ≡ f x + sum_by f (drop (i + 1) xs)
sum_next f xs i x inside is = ap (sum_by f) (drop_next xs i x inside is) ∙ sum_by-cons f x (drop (i + 1) xs)

-- a message tells two effects at most in a place
stored_few : (place id : ℕ) (body : Body) → length (stored place id body) ≤ 1
stored_few place id (bodies.Prio p) = omega arith
stored_few place id (bodies.Rel r) = omega arith
stored_few place id (bodies.Ack a) = omega arith
stored_few place id (bodies.Weight w) = omega arith
stored_few place id (bodies.Krel w) = omega arith
stored_few place id (bodies.Kack w) = omega arith
stored_few place id (bodies.Epoch w) = omega arith

gone_few : (place : ℕ) (why : Why) (e : Option Entry) → length (gone place why e) ≤ 1
gone_few place why None = omega arith
gone_few place why (Some e) = omega arith

-- at most two effects are told of a neighbour's store
pub given_few : (kept : Kept) (came : Option NodeId) (q : PrioPeer) → length (given_effects kept came q) ≤ 2
given_few kept came q = go (goes_to kept.body came q) refl
  where
    go : (t : Bool) → goes_to kept.body came q ≡ t → length (given_effects kept came q) ≤ 2
    go true is =
        rw is (omega (
          arith,
          length-append (stored q.peer (q.store.last + 1) kept.body) (gone q.peer whys.Evicted (evicted q.store kept)),
          stored_few q.peer (q.store.last + 1) kept.body,
          gone_few q.peer whys.Evicted (evicted q.store kept),
        ))
    go false is = rw is (omega arith)
