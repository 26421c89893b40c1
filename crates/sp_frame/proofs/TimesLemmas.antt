-- So many parts, one after the other: the first and the others, and what is refused first.
use Rattle.std.proofs.Common.{◌≡◌, ◌<◌, ℕ, zero, suc, ◌-◌, List, [], ◌∷◌, Result, Ok, Err, refl, ap, ◌∙◌, arith}
use Rattle.sp_base.specs.Refusals.{◌>>=◌}
use Rattle.sp_frame.specs.Grammar.{times}
use Rattle.sp_frame.specs.declared.refused.SectionRefused.{SectionRefused}

module _ {X : Type 0} (one : List ℕ → Result (X × List ℕ) SectionRefused) where
  pub times_none : (bytes : List ℕ) → times one 0 bytes ≡ Ok ([], bytes)
  times_none bytes = refl

  pub times_first : (n : ℕ) (bytes : List ℕ) (e : SectionRefused) → 0 < n → one bytes ≡ Err e → times one n bytes ≡ Err e
  times_first zero bytes e some refused = absurd (omega (arith, some))
  times_first (suc n) bytes e some refused = rw refused refl

  pub times_later : (n : ℕ) (bytes : List ℕ) (x : X × List ℕ) (e : SectionRefused) → 0 < n → one bytes ≡ Ok x → times one (n - 1) x.1 ≡ Err e
      → times one n bytes ≡ Err e
  times_later zero bytes x e some first refused = absurd (omega (arith, some))
  times_later (suc n) bytes x e some first refused =
      let same : suc n - 1 ≡ n = omega arith in
      let later : times one n x.1 ≡ Err e = ap (λ (m : ℕ). times one m x.1) (let back : n ≡ suc n - 1 = omega arith in back) ∙ refused in
      rw first (rw later refl)

  pub times_all : (n : ℕ) (bytes : List ℕ) (x : X × List ℕ) (xs : List X × List ℕ) → 0 < n → one bytes ≡ Ok x → times one (n - 1) x.1 ≡ Ok xs
      → times one n bytes ≡ Ok (x.0 ∷ xs.0, xs.1)
  times_all zero bytes x xs some first others = absurd (omega (arith, some))
  times_all (suc n) bytes x xs some first others =
      let later : times one n x.1 ≡ Ok xs = ap (λ (m : ℕ). times one m x.1) (let back : n ≡ suc n - 1 = omega arith in back) ∙ others in
      rw first (rw later refl)

pub ruleset read_in_turn = (times_none, times_first, times_later, times_all)
