-- Service in turn: as many choices as there are places serve each place that is active all the time.
use Rattle.std.specs.Prelude.{ℕ, zero, suc, ◌≡◌, ◌+◌, ◌≤◌, Bool, true, false, List, [], ◌∷◌, length, ◌++◌, Option, Some, All, if◌then◌else◌}
use Rattle.sp_base.specs.Cursor.{next_after}
use Rattle.std.proofs.Common.{◌≡◌, ℕ, zero, suc, ◌+◌, ◌-◌, ◌<◌, ◌≤◌, ◌⊎◌, Bool, true, false, cond, ltb, List, [], ◌∷◌, length, drop, get_or, Option, Some, None}
use Rattle.std.proofs.Common.{option_map, refl, sym, ap, ◌∙◌, inl, inr, arith}
use Rattle.std.specs.Prelude.{All}
use Rattle.std.proofs.lemmas.List.Elements.{All-head, All-tail}
use Rattle.std.specs.List.{position, position_or_len}
use Rattle.std.proofs.lemmas.Bool.{cases_Bool, ltb-true, ltb-false, cases_lt, cases_eq, lt-ltb, le-ltb}
use Rattle.std.proofs.lemmas.List.Quantifiers.{position-Some}
use Rattle.std.proofs.lemmas.List.Sums.{fails_before_first}
use Rattle.std.proofs.lemmas.List.{get_or-drop}
use Rattle.sp_base.specs.Cursor.{next_after, first_active_from, or_else}

-- whether a place is active
abbrev pub is_on : List Bool → ℕ → Bool
is_on [] place = false
is_on (first ∷ others) zero = first
is_on (first ∷ others) (suc place) = is_on others place

-- how many places are active
abbrev pub number_on : List Bool → ℕ
number_on [] = 0
number_on (first ∷ others) = (if first then 1 else 0) + number_on others

-- what is active first is active later
abbrev pub IsWithin : List Bool → List Bool → Type 0
IsWithin first later = (place : ℕ) → is_on first place ≡ true → is_on later place ≡ true

-- the places that are served one after the other, where these are active
abbrev pub places_served : Option ℕ → List (List Bool) → List (Option ℕ)
places_served last [] = []
places_served last (active ∷ later) = next_after last active ∷ places_served (next_after last active) later

abbrev pub IsAmong : {X : Type 0} → X → List X → Type 0
IsAmong {X} x xs = (before : List X) × (after : List X) × (xs ≡ before ++ x ∷ after)

-- Places may become active on the way. As many choices as are active at the end serve each place that is active from the start.
abbrev pub ServiceLaw : Type 0
ServiceLaw = (place : ℕ) (last : Option ℕ) (actives : List (List Bool)) (end : List Bool)
    → All (λ active. is_on active place ≡ true) actives → All (λ active. IsWithin active end) actives
    → 1 ≤ length actives → number_on end ≤ length actives → IsAmong (Some place) (places_served last actives)

-- ---- the proofs

-- ---- the first active place

on_get : (xs : List Bool) (k : ℕ) → get_or xs k false ≡ is_on xs k
on_get [] k = refl
on_get (x ∷ xs) zero = refl
on_get (x ∷ xs) (suc k) = on_get xs k

-- the first active place from k on, if there is one
pub record IsFirst (k : ℕ) (xs : List Bool) (q : ℕ) : Type 0 where
  pub from : k ≤ q
  pub is : is_on xs q ≡ true
  pub least : (x : ℕ) → k ≤ x → is_on xs x ≡ true → q ≤ x

position_is : (xs : List Bool) (i : ℕ) → position (λ x. x) xs ≡ Some i → (is_on xs i ≡ true) × ((x : ℕ) → is_on xs x ≡ true → i ≤ x)
position_is [] i e = absurd (let f : None ≡ Some i = e in cc)
position_is (x ∷ xs) i e = let it = position-Some (λ (y : Bool). y) (x ∷ xs) i false e in (
  sym (on_get (x ∷ xs) i) ∙ it.1,
  λ k on. elim (cases_lt k i) [
    | inl lt ↦ absurd (let a = it.2 k lt in let b = on_get (x ∷ xs) k in cc)
    | inr ge ↦ ge
  ],
)

on_in : (xs : List Bool) (k : ℕ) → is_on xs k ≡ true → k < length xs
on_in [] k e = absurd (let f : false ≡ true = e in cc)
on_in (x ∷ xs) zero e = omega arith
on_in (x ∷ xs) (suc k) e = let h = on_in xs k e in omega (arith, h)

position_none : (xs : List Bool) → position (λ x. x) xs ≡ None → (x : ℕ) → is_on xs x ≡ true → ⊥
position_none xs e x on = elim (cases_Bool (ltb (position_or_len (λ (y : Bool). y) xs) (length xs))) [
  | inl t ↦ let f : Some (position_or_len (λ (y : Bool). y) xs) ≡ None = sym (rw t refl) ∙ e in cc
  | inr t ↦
      let long = ltb-false _ _ t in
      let short = on_in xs x on in
      let off = fails_before_first (λ (y : Bool). y) xs x false (omega (arith, long, short)) in
      let same = on_get xs x in cc
]

on_drop : (k : ℕ) (xs : List Bool) (x : ℕ) → is_on (drop k xs) x ≡ is_on xs (k + x)
on_drop k xs x = sym (on_get (drop k xs) x) ∙ get_or-drop k xs x false ∙ on_get xs (k + x)

some_of : (k : ℕ) (r : Option ℕ) (q : ℕ) → option_map (λ skipped. k + skipped) r ≡ Some q → (i : ℕ) × (r ≡ Some i) × (q ≡ k + i)
some_of k None q e = absurd (let f : None ≡ Some q = e in cc)
some_of k (Some i) q e = (i, refl, let f : Some (k + i) ≡ Some q = e in cc)

none_of : (k : ℕ) (r : Option ℕ) → option_map (λ skipped. k + skipped) r ≡ None → r ≡ None
none_of k None e = refl
none_of k (Some i) e = absurd (let f : Some (k + i) ≡ None = e in cc)

first_some : (k : ℕ) (xs : List Bool) (q : ℕ) → first_active_from k xs ≡ Some q → IsFirst k xs q
first_some k xs q e =
    let it = some_of k (position (λ (y : Bool). y) (drop k xs)) q e in
    let at = position_is (drop k xs) it.0 it.1 in
    record {
      from = omega (arith, it.2);
      is = rw it.2 (sym (on_drop k xs it.0) ∙ at.0);
      least = λ x low on. let back : k + (x - k) ≡ x = omega (arith, low) in let le = at.1 (x - k) (on_drop k xs (x - k) ∙ rw back on) in
          omega (arith, it.2, le, low);
    }

first_none : (k : ℕ) (xs : List Bool) → first_active_from k xs ≡ None → (x : ℕ) → k ≤ x → is_on xs x ≡ true → ⊥
first_none k xs e x low on =
    let none = none_of k (position (λ (y : Bool). y) (drop k xs)) e in
    let back : k + (x - k) ≡ x = omega (arith, low) in
    position_none (drop k xs) none (x - k) (on_drop k xs (x - k) ∙ rw back on)

-- ---- the choice

-- the choice q after p, as t sees it
abbrev Chosen : Option ℕ → ℕ → ℕ → Type 0
Chosen None q t = q ≤ t
Chosen (Some p) q t = ((p < q) × (p < t → q ≤ t)) ⊎ ((t ≤ p) × (q ≤ t))

or_some : (a b : Option ℕ) (q : ℕ) → or_else a b ≡ Some q → (a ≡ Some q) ⊎ ((a ≡ None) × (b ≡ Some q))
or_some None b q e = inr (refl, e)
or_some (Some x) b q e = inl e

chosen : (last : Option ℕ) (xs : List Bool) (q t : ℕ) → is_on xs t ≡ true → next_after last xs ≡ Some q → (is_on xs q ≡ true) × Chosen last q t
chosen None xs q t on e = let f = first_some 0 xs q e in (f.is, f.least t (omega arith) on)
chosen (Some p) xs q t on e = elim (or_some (first_active_from (p + 1) xs) (first_active_from 0 xs) q e) [
  | inl fore ↦ let f = first_some (p + 1) xs q fore in let from = f.from in (f.is, inl (omega (arith, from), λ lt. f.least t (omega (arith, lt)) on))
  | inr round ↦ let f = first_some 0 xs q round.1 in
      (f.is, inr (elim (cases_lt p t) [ inl lt ↦ absurd (first_none (p + 1) xs round.0 t (omega (arith, lt)) on) | inr ge ↦ ge ], f.least t (omega arith) on))
]

-- a place that is chosen is active
pub next_on : (last : Option ℕ) (xs : List Bool) (q : ℕ) → next_after last xs ≡ Some q → is_on xs q ≡ true
next_on None xs q e = (first_some 0 xs q e).is
next_on (Some p) xs q e = elim (or_some (first_active_from (p + 1) xs) (first_active_from 0 xs) q e) [
  | inl fore ↦ (first_some (p + 1) xs q fore).is
  | inr round ↦ (first_some 0 xs q round.1).is
]

-- there is a choice where a place is active
some_or : (r : Option ℕ) → (r ≡ None → ⊥) → (q : ℕ) × (r ≡ Some q)
some_or None never = absurd (never refl)
some_or (Some q) never = (q, refl)

or_none : (a b : Option ℕ) → or_else a b ≡ None → b ≡ None
or_none None b e = e
or_none (Some x) b e = absurd (let f : Some x ≡ None = e in cc)

never_none : (last : Option ℕ) (xs : List Bool) (t : ℕ) → is_on xs t ≡ true → next_after last xs ≡ None → ⊥
never_none None xs t on e = first_none 0 xs e t (omega arith) on
never_none (Some p) xs t on e = first_none 0 xs (or_none (first_active_from (p + 1) xs) (first_active_from 0 xs) e) t (omega arith) on

pub choice : (last : Option ℕ) (xs : List Bool) (t : ℕ) → is_on xs t ≡ true → (q : ℕ) × (next_after last xs ≡ Some q)
choice last xs t on = some_or (next_after last xs) (never_none last xs t on)

-- ---- the distance

-- how many places up to x are active
abbrev count_to : List Bool → ℕ → ℕ
count_to [] x = 0
count_to (z ∷ zs) zero = cond z 1 0
count_to (z ∷ zs) (suc x) = cond z 1 0 + count_to zs x

count_more : (zs : List Bool) (x y : ℕ) → x ≤ y → count_to zs x ≤ count_to zs y
count_more [] x y le = omega arith
count_more (z ∷ zs) zero zero le = omega arith
count_more (z ∷ zs) zero (suc y) le = omega arith
count_more (z ∷ zs) (suc x) zero le = absurd (omega (arith, le))
count_more (z ∷ zs) (suc x) (suc y) le = let h = count_more zs x y (omega (arith, le)) in omega (arith, h)

count_all : (zs : List Bool) (x : ℕ) → count_to zs x ≤ number_on zs
count_all [] x = omega arith
count_all (z ∷ zs) zero = omega arith
count_all (z ∷ zs) (suc x) = let h = count_all zs x in omega (arith, h)

count_one : (zs : List Bool) (q : ℕ) → is_on zs q ≡ true → 1 ≤ count_to zs q
count_one [] q on = absurd (let f : false ≡ true = on in cc)
count_one (z ∷ zs) zero on = let f : z ≡ true = on in rw f (omega arith)
count_one (z ∷ zs) (suc q) on = let h = count_one zs q on in omega (arith, h)

count_rise : (zs : List Bool) (x q : ℕ) → is_on zs q ≡ true → x < q → count_to zs x + 1 ≤ count_to zs q
count_rise [] x q on lt = absurd (let f : false ≡ true = on in cc)
count_rise (z ∷ zs) x zero on lt = absurd (omega (arith, lt))
count_rise (z ∷ zs) zero (suc q) on lt = let h = count_one zs q on in omega (arith, h)
count_rise (z ∷ zs) (suc x) (suc q) on lt = let h = count_rise zs x q on (omega (arith, lt)) in omega (arith, h)

-- how many places that are active at the end stand behind the last one up to t, round the cycle
abbrev pub distance : List Bool → Option ℕ → ℕ → ℕ
distance zs None t = count_to zs t
distance zs (Some p) t = cond (ltb p t) (count_to zs t - count_to zs p) (count_to zs t + number_on zs - count_to zs p)

pub distance_all : (zs : List Bool) (last : Option ℕ) (t : ℕ) → distance zs last t ≤ number_on zs
distance_all zs None t = count_all zs t
distance_all zs (Some p) t = let a = count_all zs t in elim (cases_Bool (ltb p t)) [
  | inl s ↦ rw s (omega (arith, a))
  | inr s ↦ let up = count_more zs t p (let z = ltb-false _ _ s in omega (arith, z)) in rw s (omega (arith, up))
]

pub distance_one : (zs : List Bool) (last : Option ℕ) (t : ℕ) → is_on zs t ≡ true → 1 ≤ distance zs last t
distance_one zs None t on = count_one zs t on
distance_one zs (Some p) t on = elim (cases_Bool (ltb p t)) [
  | inl s ↦ let up = count_rise zs p t on (ltb-true _ _ s) in rw s (omega (arith, up))
  | inr s ↦ let one = count_one zs t on in let a = count_all zs p in rw s (omega (arith, one, a))
]

nearer : (zs : List Bool) (last : Option ℕ) (q t : ℕ) → is_on zs q ≡ true → is_on zs t ≡ true → Chosen last q t → (q ≡ t → ⊥)
    → distance zs (Some q) t + 1 ≤ distance zs last t
nearer zs None q t on there le other =
    let s : ltb q t ≡ true = lt-ltb _ _ (omega (arith, le, other)) in
    let one = count_one zs q on in
    let up = count_more zs q t le in
    rw s (omega (arith, one, up))
nearer zs (Some p) q t on there choice other = elim choice [
  | inl ahead ↦ let more = count_rise zs p q on ahead.0 in elim (cases_Bool (ltb p t)) [
    | inl s ↦
        let le = ahead.1 (ltb-true _ _ s) in
        let r : ltb q t ≡ true = lt-ltb _ _ (omega (arith, le, other)) in
        let up = count_more zs q t le in
        rw (r, s) (omega (arith, more, up))
    | inr s ↦
        let z = ltb-false _ _ s in
        let r : ltb q t ≡ false = le-ltb _ _ (omega (arith, z, ahead.0)) in
        let u = count_all zs q in
        rw (r, s) (omega (arith, more, u))
  ]
  | inr round ↦
      let s : ltb p t ≡ false = le-ltb _ _ (omega (arith, round.0)) in
      let r : ltb q t ≡ true = lt-ltb _ _ (omega (arith, round.1, other)) in
      let one = count_one zs q on in
      let up = count_more zs q t round.1 in
      let u = count_all zs p in
      rw (r, s) (omega (arith, one, up, u))
]

-- each choice of another place comes nearer
pub serves_nearer : (last : Option ℕ) (active zs : List Bool) (t : ℕ) → is_on active t ≡ true → IsWithin active zs
    → (q : ℕ) × (next_after last active ≡ Some q) × ((q ≡ t → ⊥) → distance zs (Some q) t + 1 ≤ distance zs last t)
serves_nearer last active zs t on within =
    let it = choice last active t on in
    let c = chosen last active it.0 t on it.1 in
    (it.0, it.1, nearer zs last it.0 t (within it.0 c.0) (within t on) c.1)

among_later : (place : ℕ) (p : Option ℕ) (ps : List (Option ℕ)) → IsAmong (Some place) ps → IsAmong (Some place) (p ∷ ps)
among_later place p ps i = (p ∷ i.0, i.1, ap (λ xs. p ∷ xs) i.2)

served_in : (place : ℕ) (last : Option ℕ) (actives : List (List Bool)) (end : List Bool)
    → All (λ active. is_on active place ≡ true) actives → All (λ active. IsWithin active end) actives
    → 1 ≤ length actives → distance end last place ≤ length actives → IsAmong (Some place) (places_served last actives)
served_in place last [] end on within one near = absurd (omega (arith, one))
served_in place last (active ∷ later) end ons withins one near =
    let on = All-head (λ (xs : List Bool). is_on xs place ≡ true) active later ons in
    let within = All-head (λ (xs : List Bool). IsWithin xs end) active later withins in
    let next = serves_nearer last active end place on within in
    elim (cases_eq next.0 place) [
      | inl is ↦ (
        [],
        places_served (next_after last active) later,
        ap (λ p. p ∷ places_served (next_after last active) later) (next.1 ∙ ap (λ (q : ℕ). Some q) is),
      )
      | inr other ↦
          let less = next.2 other in
          let some = distance_one end (Some next.0) place (within place on) in
          among_later place (next_after last active) (places_served (next_after last active) later)
          (rw next.1 (served_in place (Some next.0) later end (All-tail (λ (xs : List Bool). is_on xs place ≡ true) active later ons)
          (All-tail (λ (xs : List Bool). IsWithin xs end) active later withins) (omega (arith, less, some, near)) (omega (arith, less, near))))
    ]

pub service : ServiceLaw
service place last actives end on within one enough = let d = distance_all end last place in
    served_in place last actives end on within one (omega (arith, d, enough))
