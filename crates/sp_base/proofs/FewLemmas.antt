-- Going through a list by its places, and from its front.
use Rattle.std.proofs.Common.{◌≡◌, ℕ, zero, suc, ◌+◌, List, [], ◌∷◌, length, drop, Some, None, refl, subst, ap, ◌∙◌, arith}
use Rattle.std.specs.List.{All, slice_get}
use Rattle.std.proofs.lemmas.List.Elements.{All-get_or}
use Rattle.std.proofs.lemmas.Option.{get_or_from_slice_get, slice_get_within}
use Rattle.sp_base.specs.Few.{split_first}

-- what is left from a place on begins with what stands there
pub drop_first : {X : Type 0} (xs : List X) (i : ℕ) (x : X) → slice_get xs i ≡ Some x → drop i xs ≡ x ∷ drop (i + 1) xs
drop_first [] i x at = absurd (cc)
drop_first (a ∷ xs) zero x at = cc
drop_first {X} (a ∷ xs) (suc i) x at = drop_first xs i x at ∙ (let e : i + 1 ≡ suc i = omega arith in ap (λ (n : ℕ). x ∷ drop n xs) e)
    ∙ (let e : suc (suc i) ≡ suc i + 1 = omega arith in ap (λ (n : ℕ). x ∷ drop n (a ∷ xs)) e)

-- and past the end nothing is left
pub drop_past : {X : Type 0} (xs : List X) (i : ℕ) → slice_get xs i ≡ None → drop i xs ≡ []
drop_past [] zero at = refl
drop_past [] (suc i) at = refl
drop_past (a ∷ xs) zero at = absurd (cc)
drop_past (a ∷ xs) (suc i) at = drop_past xs i at

-- what holds of all holds of what stands in a place
pub at_place : {X : Type 0} (P : X → Type 0) (xs : List X) (i : ℕ) (x : X) → All P xs → slice_get xs i ≡ Some x → P x
at_place P xs i x all at = subst P (get_or_from_slice_get xs i x x at) (All-get_or P xs i x (slice_get_within xs i x at) all)

-- a list that is split is its first value and those after it
pub split_is : {X : Type 0} (xs : List X) (x : X) (rest : List X) → split_first xs ≡ Some (x, rest) → xs ≡ x ∷ rest
split_is [] x rest split = absurd (cc)
split_is {X} (a ∷ xs) x rest split =
    let pair : (a, xs) ≡ (x, rest) = cc in
    ap (λ (p : X × List X). p.0 ∷ p.1) pair

pub split_length : {X : Type 0} (xs : List X) (x : X) (rest : List X) → split_first xs ≡ Some (x, rest) → length xs ≡ length rest + 1
split_length xs x rest split = rw (split_is xs x rest split) (omega arith)

pub split_none : {X : Type 0} (xs : List X) → split_first xs ≡ None → xs ≡ []
split_none [] split = refl
split_none (a ∷ xs) split = absurd (cc)
