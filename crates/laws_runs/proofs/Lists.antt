-- What a longer run tells, and what is among strings of bytes.
use Rattle.std.proofs.Common.{◌≡◌, ℕ, zero, suc, Bool, true, false, cond, List, [], ◌∷◌, ◌++◌, length, Some, refl, sym, ap, ◌∙◌, inl, inr}
use Rattle.std.specs.Prelude.{◌==◌, ◌&&◌, ◌||◌, ◌⊎◌, nat_eq}
use Rattle.std.specs.Cmp.Lexicographic.{pointwise}
use Rattle.std.specs.List.{flat_map, slice_get, zip}
use Rattle.std.proofs.lemmas.Bool.{eqb-true, eq-eqb}
use Rattle.std.proofs.lemmas.List.{append-nil}
use Rattle.std.proofs.lemmas.List.Concat.{flat_map-append}
use Rattle.std.proofs.lemmas.List.Folds.{list_any-append}
use Rattle.sp_base.proofs.ListLemmas.{zip-push}
use Rattle.sp_base.specs.declared.id.NodeId.{NodeId}
use Rattle.sp_msg.specs.declared.effect.Effect.{Effect}
use Rattle.sp_runs.specs.Forgery.{is_among}
use Rattle.sp_runs.specs.Inputs.{acting}
use Rattle.sp_runs.specs.Told.{told, told_at}
use Rattle.sp_journal.specs.declared.entry.Entry.{Entry}
use Rattle.sp_schedule_events.specs.declared.event.Event.{Event}

-- one more event adds what it tells
pub told_more : {X : Type 0} (tells : Event × Entry → List X) (es : List Event) (js : List Entry) (e : Event) (j : Entry) → length es ≡ length js
    → told tells (es ++ e ∷ []) (js ++ j ∷ []) ≡ told tells es js ++ tells (e, j)
told_more tells es js e j even =
    ap (flat_map tells) (zip-push es js e j even) ∙ flat_map-append tells (zip es js) ((e, j) ∷ [])
    ∙ ap (λ t. told tells es js ++ t) (append-nil (tells (e, j)))

-- what an event tells at a node is what its effects tell
pub here_is : {X : Type 0} (v : NodeId) (tells : Effect → List X) (e : Event) (j : Entry) (es : List Effect) → j.effects ≡ es
    → told_at v tells (e, j) ≡ cond ((acting e).0 == v.0) (flat_map tells es) []
here_is v tells e j es is = ap (λ (xs : List Effect). cond ((acting e).0 == v.0) (flat_map tells xs) []) is

pub none_either : {X : Type 0} (t : Bool) → cond {A = List X} t [] [] ≡ []
none_either true = refl
none_either false = refl

pub nothing_told : {X : Type 0} (v : NodeId) (tells : Effect → List X) (es : List Event) (js : List Entry) (e : Event) (j : Entry) → length es ≡ length js
    → j.effects ≡ []
    → flat_map (told_at v tells) (zip (es ++ e ∷ []) (js ++ j ∷ [])) ≡ flat_map (told_at v tells) (zip es js)
nothing_told v tells es js e j same none =
    told_more (told_at v tells) es js e j same ∙ ap (λ t. flat_map (told_at v tells) (zip es js) ++ t)
    (here_is v tells e j [] none ∙ none_either ((acting e).0 == v.0))
    ∙ append-nil (flat_map (told_at v tells) (zip es js))

-- ---- two tests

-- where two together are so, each is
pub both : (x y : Bool) → (x && y) ≡ true → (x ≡ true) × (y ≡ true)
both true true e = (refl, refl)
both true false e = absurd cc
both false y e = absurd cc

-- ---- strings of bytes

-- a list of bytes is told as the same as itself
pub same_bytes : (xs : List ℕ) → pointwise nat_eq xs xs ≡ true
same_bytes [] = refl
same_bytes (x ∷ xs) = rw (eq-eqb x x refl, same_bytes xs) refl

-- lists of bytes that are told as the same are equal
pub are_same : (xs ys : List ℕ) → pointwise nat_eq xs ys ≡ true → xs ≡ ys
are_same [] [] e = refl
are_same [] (y ∷ ys) e = absurd cc
are_same (x ∷ xs) [] e = absurd cc
are_same (x ∷ xs) (y ∷ ys) e = let parts = both _ _ e in ap (λ n. n ∷ xs) (eqb-true x y parts.0) ∙ ap (λ r. y ∷ r) (are_same xs ys parts.1)

pub or_true : (a : Bool) → (a || true) ≡ true
or_true true = refl
or_true false = refl

pub among_left : (x : List ℕ) (xs ys : List (List ℕ)) → is_among x xs ≡ true → is_among x (xs ++ ys) ≡ true
among_left x xs ys h = list_any-append (λ y. pointwise nat_eq y x) xs ys ∙ rw h refl

pub among_right : (x : List ℕ) (xs ys : List (List ℕ)) → is_among x ys ≡ true → is_among x (xs ++ ys) ≡ true
among_right x xs ys h = list_any-append (λ y. pointwise nat_eq y x) xs ys ∙ rw h (or_true (is_among x xs))

either : (a b : Bool) → (a || b) ≡ true → (a ≡ true) ⊎ (b ≡ true)
either true b e = inl refl
either false b e = inr e

pub among_or : (x : List ℕ) (xs ys : List (List ℕ)) → is_among x (xs ++ ys) ≡ true → (is_among x xs ≡ true) ⊎ (is_among x ys ≡ true)
among_or x xs ys h = either _ _ (sym (list_any-append (λ y. pointwise nat_eq y x) xs ys) ∙ h)

pub among_get : (x : List ℕ) (xs : List (List ℕ)) (i : ℕ) → slice_get xs i ≡ Some x → is_among x xs ≡ true
among_get x [] i e = absurd cc
among_get x (y ∷ xs) zero e = let is : y ≡ x = cc in rw is (rw (same_bytes x) refl)
among_get x (y ∷ xs) (suc i) e = let rest = among_get x xs i e in rw rest (or_true (pointwise nat_eq y x))

-- the one of them that it is
pub among_cons : (x y : List ℕ) (xs : List (List ℕ)) → is_among x (y ∷ xs) ≡ true → (y ≡ x) ⊎ (is_among x xs ≡ true)
among_cons x y xs h = elim (either _ _ h) [ inl e ↦ inl (are_same y x e) | inr e ↦ inr e ]

pub first_among : (x : List ℕ) (xs : List (List ℕ)) → is_among x (x ∷ xs) ≡ true
first_among x xs = rw (same_bytes x) refl

-- the front of a list ends where another goes on with an element
pub front_more : {X : Type 0} (xs ys : List X) (x : X) → slice_get (xs ++ ys) (length xs) ≡ Some x → (rest : List X) × (ys ≡ x ∷ rest)
front_more [] [] x e = absurd cc
front_more [] (y ∷ ys) x e = (ys, cc)
front_more (a ∷ xs) ys x e = front_more xs ys x e

-- each element as one
pub as_they_are : {X : Type 0} (xs : List X) → flat_map (λ x. x ∷ []) xs ≡ xs
as_they_are [] = refl
as_they_are {X} (x ∷ xs) = ap (λ (ys : List X). x ∷ ys) (as_they_are xs)
