-- The first events of a run without forgery are one.
use Rattle.std.proofs.Common.{◌≡◌, ◌≤◌, ◌<◌, ℕ, zero, suc, List, [], ◌∷◌, ◌++◌, length, take, refl, sym, ap, subst, inl, inr, arith}
use Rattle.std.specs.Prelude.{◌⊎◌}
use Rattle.std.proofs.lemmas.List.{length_push}
use Rattle.sp_runs.specs.Runs.{Clean, Starts, Turned}
use Rattle.sp_runs.specs.Worlds.{at_start}
use Rattle.sp_journal.specs.declared.entry.Entry.{Entry}
use Rattle.sp_schedule_events.specs.declared.event.Event.{Event}
use Rattle.laws_runs.specs.States.{BeginningsAreClean}
use Rattle.laws_runs.proofs.SignedEvents.{even}

-- of a list with one more element, so many are of the list, or all are taken
front : {X : Type 0} (n : ℕ) (xs : List X) (y : X) → n ≤ length xs → take n (xs ++ y ∷ []) ≡ take n xs
front zero xs y within = refl
front (suc n) [] y within = absurd (omega (arith, within))
front {X} (suc n) (x ∷ xs) y within = ap (λ (zs : List X). x ∷ zs) (front n xs y (omega (arith, within)))

whole : {X : Type 0} (n : ℕ) (xs : List X) → length xs ≤ n → take n xs ≡ xs
whole zero [] within = refl
whole zero (x ∷ xs) within = absurd (omega (arith, within))
whole (suc n) [] within = refl
whole {X} (suc n) (x ∷ xs) within = ap (λ (zs : List X). x ∷ zs) (whole n xs (omega (arith, within)))

either_way : (m n : ℕ) → (n ≤ m) ⊎ (m < n)
either_way m zero = inl (omega arith)
either_way zero (suc n) = inr (omega arith)
either_way (suc m) (suc n) = elim (either_way m n) [ inl h ↦ inl (omega (arith, h)) | inr h ↦ inr (omega (arith, h)) ]

pub beginnings_are_clean : BeginningsAreClean
beginnings_are_clean arts x es js w Starts n = (
  at_start x,
  subst (λ (es : List Event). Clean arts x es (take n []) (at_start x)) (sym (whole n [] (omega arith)))
      (subst (λ (js : List Entry). Clean arts x [] js (at_start x)) (sym (whole n [] (omega arith))) Starts),
)
beginnings_are_clean arts x es js w (Turned {es = es'} {js = js'} {old = old} {e = e} {j = j} run range turn unforged) n =
    let same = even arts x es' js' old run in
    elim (either_way (length es') n) [
      | inl within ↦
          let before = beginnings_are_clean arts x es' js' old run n in (
            before.0,
            subst (λ (xs : List Event). Clean arts x xs (take n (js' ++ j ∷ [])) before.0) (sym (front n es' e within))
                (subst (λ (ys : List Entry). Clean arts x (take n es') ys before.0) (sym (front n js' j (omega (arith, within, same)))) before.1),
          )
      | inr beyond ↦
          let one = length_push es' e in
          let two = length_push js' j in (
            w,
            subst (λ (xs : List Event). Clean arts x xs (take n (js' ++ j ∷ [])) w) (sym (whole n (es' ++ e ∷ []) (omega (arith, one, beyond))))
                (subst (λ (ys : List Entry). Clean arts x (es' ++ e ∷ []) ys w) (sym (whole n (js' ++ j ∷ []) (omega (arith, two, beyond, same))))
                (Turned run range turn unforged)),
          )
    ]
