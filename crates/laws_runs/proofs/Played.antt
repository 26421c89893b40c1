-- What a place holds as its effects are played one after the other, and that it is what the stored entries without the gone ones are.
use Rattle.laws_runs.specs.Places.{FreshIf, Shelf, Steps, less_held, no_shelf, shelf_after, shelf_by}
use Rattle.std.proofs.Common.{◌≡◌, ◌<◌, ◌≤◌, ℕ, ◌==◌, ◌&&◌, ◌||◌, Bool, true, false, not, List, [], ◌∷◌, ◌++◌, filter, flat_map, refl, sym, ap, subst, ◌∙◌, inl}
use Rattle.std.proofs.Common.{inr, arith, append_assoc}
use Rattle.std.specs.List.{list_any}
use Rattle.std.proofs.Math.Bool.{or-false}
use Rattle.std.proofs.lemmas.Bool.{cases_Bool, eq-eqb, eqb-true, ne_eqb}
use Rattle.std.proofs.lemmas.List.{append-nil}
use Rattle.std.proofs.lemmas.List.Concat.{flat_map-append}
use Rattle.std.proofs.lemmas.List.Folds.{list_any-append}
use Rattle.sp_msg.specs.declared.effect.Effect.{Effect}
use Rattle.sp_msg.specs.declared.effect.Effect.TheVariants as effects
use Rattle.sp_runs.specs.Held.{AreShares, Held, ShareIf, goes_from, held_in, stored_in}

-- ---- a place, step by step

-- ---- the same without steps

not_or : (a b : Bool) → not (a || b) ≡ (not a && not b)
not_or true b = refl
not_or false b = refl

-- one test after the other
filter_both : (f g h : Held → Bool) → ((x : Held) → f x ≡ (g x && h x)) → (xs : List Held) → filter f xs ≡ filter h (filter g xs)
filter_both f g h same [] = refl
filter_both f g h same (x ∷ xs) = elim (cases_Bool (g x)) [
  | inl t ↦ elim (cases_Bool (h x)) [
    | inl s ↦ let both : f x ≡ true = same x ∙ rw (t, s) refl in rw (both, t, s) (ap (λ (ys : List Held). x ∷ ys) (filter_both f g h same xs))
    | inr s ↦ let both : f x ≡ false = same x ∙ rw (t, s) refl in rw (both, t, s) (filter_both f g h same xs)
  ]
  | inr t ↦ let both : f x ≡ false = same x ∙ rw t refl in rw (both, t) (filter_both f g h same xs)
]

filter_same : (f g : Held → Bool) → ((x : Held) → f x ≡ g x) → (xs : List Held) → filter f xs ≡ filter g xs
filter_same f g same [] = refl
filter_same f g same (x ∷ xs) = elim (cases_Bool (g x)) [
  | inl t ↦ rw (same x ∙ t, t) (ap (λ (ys : List Held). x ∷ ys) (filter_same f g same xs))
  | inr t ↦ rw (same x ∙ t, t) (filter_same f g same xs)
]

filter_last : (f : Held → Bool) (xs : List Held) (y : Held) → f y ≡ true → filter f (xs ++ y ∷ []) ≡ filter f xs ++ y ∷ []
filter_last f [] y is = rw is refl
filter_last f (x ∷ xs) y is = elim (cases_Bool (f x)) [
  | inl t ↦ rw t (ap (λ (ys : List Held). x ∷ ys) (filter_last f xs y is))
  | inr t ↦ rw t (filter_last f xs y is)
]

abbrev gone : ℕ → List Effect → ℕ → Bool
gone p es id = list_any (goes_from p id) es

gone_more : (p : ℕ) (es : List Effect) (e : Effect) (id : ℕ) → gone p (es ++ e ∷ []) id ≡ (gone p es id || goes_from p id e)
gone_more p es e id = list_any-append (goes_from p id) es (e ∷ []) ∙ ap (λ t. gone p es id || t) (or-false (goes_from p id e))

stored_more : (p : ℕ) (es : List Effect) (e : Effect) → flat_map (stored_in p) (es ++ e ∷ []) ≡ flat_map (stored_in p) es ++ stored_in p e
stored_more p es e = flat_map-append (stored_in p) es (e ∷ []) ∙ ap (λ hs. flat_map (stored_in p) es ++ hs) (append-nil (stored_in p e))

-- these effects lead to this shelf
record IsPlayed (p : ℕ) (es : List Effect) (st : Shelf) : Type 0 where
  held : held_in p es ≡ st.held
  given : (id : ℕ) → gone p es id ≡ true → id ≤ st.top

-- an effect of no entry of this place
quiet : (p : ℕ) (es : List Effect) (st : Shelf) (e : Effect) → stored_in p e ≡ [] → ((id : ℕ) → goes_from p id e ≡ false) → IsPlayed p es st
    → IsPlayed p (es ++ e ∷ []) st
quiet p es st e none away h =
    let same : (id : ℕ) → gone p (es ++ e ∷ []) id ≡ gone p es id =
    λ id. gone_more p es e id ∙ ap (λ t. gone p es id || t) (away id) ∙ or-false (gone p es id) in
    record {
      held = filter_same (λ x. not (gone p (es ++ e ∷ []) x.id)) (λ x. not (gone p es x.id)) (λ x. ap not (same x.id)) (flat_map (stored_in p) (es ++ e ∷ []))
          ∙ ap (filter (λ x. not (gone p es x.id)))
          (stored_more p es e ∙ ap (λ hs. flat_map (stored_in p) es ++ hs) none ∙ append-nil (flat_map (stored_in p) es))
          ∙ h.held;
      given = λ id is. h.given id (sym (same id) ∙ is);
    }

stored : (p : ℕ) (es : List Effect) (st : Shelf) (e : Effect) (new : Held) → stored_in p e ≡ new ∷ [] → ((id : ℕ) → goes_from p id e ≡ false) → st.top < new.id
    → IsPlayed p es st → IsPlayed p (es ++ e ∷ []) (record { top = new.id; held = st.held ++ new ∷ [] })
stored p es st e new one away above h =
    let same : (id : ℕ) → gone p (es ++ e ∷ []) id ≡ gone p es id =
    λ id. gone_more p es e id ∙ ap (λ t. gone p es id || t) (away id) ∙ or-false (gone p es id) in
    let stays : not (gone p es new.id) ≡ true =
    elim (cases_Bool (gone p es new.id)) [ inl t ↦ absurd (omega (arith, h.given new.id t, above)) | inr t ↦ ap not t ] in
    record {
      held = filter_same (λ x. not (gone p (es ++ e ∷ []) x.id)) (λ x. not (gone p es x.id)) (λ x. ap not (same x.id)) (flat_map (stored_in p) (es ++ e ∷ []))
          ∙ ap (filter (λ x. not (gone p es x.id))) (stored_more p es e ∙ ap (λ hs. flat_map (stored_in p) es ++ hs) one)
          ∙ filter_last (λ x. not (gone p es x.id)) (flat_map (stored_in p) es) new stays ∙ ap (λ hs. hs ++ new ∷ []) h.held;
      given = λ id is. let least = h.given id (sym (same id) ∙ is) in omega (arith, least, above);
    }

turned : (a b : ℕ) → (a == b) ≡ (b == a)
turned a b = elim (cases_Bool (b == a)) [
  | inl t ↦ eq-eqb a b (sym (eqb-true b a t)) ∙ sym t
  | inr t ↦ ne_eqb a b (λ same. absurd (let wrong : true ≡ false = sym (eq-eqb b a (sym same)) ∙ t in cc)) ∙ sym t
]

left : (p : ℕ) (es : List Effect) (st : Shelf) (e : Effect) (id : ℕ) → stored_in p e ≡ [] → ((i : ℕ) → goes_from p i e ≡ (id == i)) → id ≤ st.top
    → IsPlayed p es st → IsPlayed p (es ++ e ∷ []) (record { top = st.top; held = less_held id st.held })
left p es st e id none goes within h = record {
  held = filter_both (λ x. not (gone p (es ++ e ∷ []) x.id)) (λ x. not (gone p es x.id)) (λ x. not (x.id == id))
      (λ x. ap not (gone_more p es e x.id ∙ ap (λ t. gone p es x.id || t) (goes x.id ∙ turned id x.id)) ∙ not_or (gone p es x.id) (x.id == id))
      (flat_map (stored_in p) (es ++ e ∷ []))
      ∙ ap (λ hs. less_held id (filter (λ x. not (gone p es x.id)) hs))
      (stored_more p es e ∙ ap (λ hs. flat_map (stored_in p) es ++ hs) none ∙ append-nil (flat_map (stored_in p) es))
      ∙ ap (less_held id) h.held;
  given = λ i is. either i (gone p es i) refl (sym (gone_more p es e i ∙ ap (λ t. gone p es i || t) (goes i)) ∙ is);
}
  where
    either : (i : ℕ) (t : Bool) → gone p es i ≡ t → (gone p es i || (id == i)) ≡ true → i ≤ st.top
    either i true was is = h.given i was
    either i false was is =
        let same : id ≡ i = eqb-true id i (rw was at is) in
        omega (arith, same, within)

one_more : (capacity p : ℕ) (es : List Effect) (st : Shelf) (e : Effect) → FreshIf p st.top e → IsPlayed p es st
    → IsPlayed p (es ++ e ∷ []) (shelf_after p st e)
one_more capacity p es st (effects.Signed bytes) fresh h = quiet p es st (effects.Signed bytes) refl (λ id. refl) h
one_more capacity p es st (effects.Delivered src seq payload) fresh h = quiet p es st (effects.Delivered src seq payload) refl (λ id. refl) h
one_more capacity p es st (effects.DeliveredPrio src seq payload) fresh h = quiet p es st (effects.DeliveredPrio src seq payload) refl (λ id. refl) h
one_more capacity p es st (effects.WeightHeld origin edge seq weight) fresh h = quiet p es st (effects.WeightHeld origin edge seq weight) refl (λ id. refl) h
one_more capacity p es st (effects.Version version) fresh h = quiet p es st (effects.Version version) refl (λ id. refl) h
one_more capacity p es st (effects.Ended flow) fresh h = quiet p es st (effects.Ended flow) refl (λ id. refl) h
one_more capacity p es st (effects.DeliveredKrel src seq payload) fresh h = quiet p es st (effects.DeliveredKrel src seq payload) refl (λ id. refl) h
one_more capacity p es st (effects.Kended flow) fresh h = quiet p es st (effects.Kended flow) refl (λ id. refl) h
one_more capacity p es st (effects.Stored place id src seq prio) fresh h = elim (cases_Bool (place == p)) [
  | inl t ↦
      rw t (stored p es st (effects.Stored place id src seq prio) (record { id = id; src = src.0; seq = seq; prio = prio }) (rw t refl) (λ i. refl)
      (fresh (eqb-true place p t)) h)
  | inr t ↦ rw t (quiet p es st (effects.Stored place id src seq prio) (rw t refl) (λ i. refl) h)
]
one_more capacity p es st (effects.Gone place id why) fresh h = elim (cases_Bool (place == p)) [
  | inl t ↦ rw t (left p es st (effects.Gone place id why) id refl (λ i. rw t refl) (fresh (eqb-true place p t)) h)
  | inr t ↦ rw t (quiet p es st (effects.Gone place id why) refl (λ i. rw t refl) h)
]

shares_of : (capacity p : ℕ) (before : List Effect) (st : Shelf) (later : List Effect) → IsPlayed p before st → Steps capacity p st later
    → AreShares capacity p before later
shares_of capacity p before st [] h steps = tt
shares_of capacity p before st (e ∷ later) h steps = (
  subst (λ (hs : List Held). ShareIf capacity p hs e) (sym h.held) steps.0.1,
  shares_of capacity p (before ++ e ∷ []) (shelf_after p st e) later (one_more capacity p before st e steps.0.0 h) steps.1,
)

-- each eviction leaves a share by what was held before it
pub shares_from_start : (capacity p : ℕ) (es : List Effect) → Steps capacity p (record { top = 0; held = [] }) es → AreShares capacity p [] es
shares_from_start capacity p es steps =
    shares_of capacity p [] (record { top = 0; held = [] }) es (record { held = refl; given = λ id is. absurd (let wrong : false ≡ true = is in cc) }) steps

-- ---- and what is held is what the effects lead to

played_on : (capacity p : ℕ) (before : List Effect) (st : Shelf) (later : List Effect) → IsPlayed p before st → Steps capacity p st later
    → IsPlayed p (before ++ later) (shelf_by p st later)
played_on capacity p before st [] h steps = subst (λ (es : List Effect). IsPlayed p es st) (sym (append-nil before)) h
played_on capacity p before st (e ∷ later) h steps =
    subst (λ (es : List Effect). IsPlayed p es (shelf_by p (shelf_after p st e) later)) (append_assoc before (e ∷ []) later)
    (played_on capacity p (before ++ e ∷ []) (shelf_after p st e) later (one_more capacity p before st e steps.0.0 h) steps.1)

pub held_from_start : (capacity p : ℕ) (es : List Effect) → Steps capacity p no_shelf es → held_in p es ≡ (shelf_by p no_shelf es).held
held_from_start capacity p es steps =
    (played_on capacity p [] no_shelf es (record { held = refl; given = λ id is. absurd (let wrong : false ≡ true = is in cc) }) steps).held
