-- A place holds after one effect more what the effects together say.
use Rattle.std.proofs.Common.{◌≡◌, ◌<◌, ◌≤◌, ℕ, ◌==◌, ◌&&◌, ◌||◌, Bool, true, false, not, List, [], ◌∷◌, ◌++◌, filter, refl, sym, ap, ap₂, subst, ◌∙◌, inl, inr}
use Rattle.std.proofs.Common.{arith, append-nil, append_assoc}
use Rattle.std.specs.List.{All, flat_map, list_any}
use Rattle.std.proofs.lemmas.Bool.{cases_Bool, eq-eqb, eqb-true, ne_eqb}
use Rattle.std.proofs.lemmas.List.Concat.{flat_map-append}
use Rattle.std.proofs.lemmas.List.Elements.{All-head, All-tail, filter-append}
use Rattle.std.proofs.lemmas.List.Folds.{list_any-append}
use Rattle.sp_msg.specs.declared.effect.Effect.{Effect}
use Rattle.sp_msg.specs.declared.effect.Effect.TheVariants as effects
use Rattle.sp_rules.specs.Window.{is_in}
use Rattle.sp_runs.specs.Held.{AreShares, Held, ShareIf, goes_from, held_in, stored_in}
use Rattle.sp_audit.specs.Shelves.{Shelf, TakesAll, gone_from, shelf_after, shelf_of, with_entry, without}

-- ---- ids that went

or_false : (a : Bool) → (a || false) ≡ a
or_false true = refl
or_false false = refl

-- an id above all that went is new
pub none_above : (id most : ℕ) (gone : List ℕ) → All (λ g. g ≤ most) gone → most < id → is_in id gone ≡ false
none_above id most [] all above = refl
none_above id most (g ∷ gone) all above =
    let first : (g == id) ≡ false = ne_eqb g id (λ same. absurd (let low = All-head (λ (n : ℕ). n ≤ most) g gone all in omega (arith, low, same, above))) in
    rw first (none_above id most gone (All-tail (λ (n : ℕ). n ≤ most) g gone all) above)

went_by : (p id : ℕ) (e : Effect) → is_in id (gone_from p e) ≡ goes_from p id e
went_by p id (effects.Gone place gone why) = elim (cases_Bool (place == p)) [
  | inl t ↦ rw t (or_false (gone == id))
  | inr t ↦ rw t refl
]
went_by p id (effects.Stored place i src seq prio) = refl
went_by p id (effects.Delivered src seq payload) = refl
went_by p id (effects.DeliveredPrio src seq payload) = refl
went_by p id (effects.DeliveredKrel src seq payload) = refl
went_by p id (effects.Signed bytes) = refl
went_by p id (effects.WeightHeld origin edge seq weight) = refl
went_by p id (effects.Ended flow) = refl
went_by p id (effects.Kended flow) = refl
went_by p id (effects.Version version) = refl

went : (p id : ℕ) (es : List Effect) → is_in id (flat_map (gone_from p) es) ≡ list_any (goes_from p id) es
went p id [] = refl
went p id (e ∷ es) =
    list_any-append (λ m. m == id) (gone_from p e) (flat_map (gone_from p) es)
    ∙ ap₂ (λ (a b : Bool). a || b) (went_by p id e) (went p id es)

gone_more : (p : ℕ) (es : List Effect) (e : Effect) → flat_map (gone_from p) (es ++ e ∷ []) ≡ flat_map (gone_from p) es ++ gone_from p e
gone_more p es e = flat_map-append (gone_from p) es (e ∷ []) ∙ ap (λ (ys : List ℕ). flat_map (gone_from p) es ++ ys) (append-nil (gone_from p e))

-- ---- entries

abbrev stays : ℕ → List Effect → Held → Bool
stays p es h = not (list_any (goes_from p h.id) es)

filter_same : (f g : Held → Bool) → ((h : Held) → f h ≡ g h) → (hs : List Held) → filter f hs ≡ filter g hs
filter_same f g same [] = refl
filter_same f g same (h ∷ hs) = elim (cases_Bool (g h)) [
  | inl t ↦ rw (same h ∙ t, t) (ap (λ (ys : List Held). h ∷ ys) (filter_same f g same hs))
  | inr t ↦ rw (same h ∙ t, t) (filter_same f g same hs)
]

filter_both : (f g h : Held → Bool) → ((x : Held) → f x ≡ (g x && h x)) → (xs : List Held) → filter f xs ≡ filter h (filter g xs)
filter_both f g h same [] = refl
filter_both f g h same (x ∷ xs) = elim (cases_Bool (g x)) [
  | inl t ↦ elim (cases_Bool (h x)) [
    | inl s ↦ let both : f x ≡ true = same x ∙ rw (t, s) refl in rw (both, t, s) (ap (λ (ys : List Held). x ∷ ys) (filter_both f g h same xs))
    | inr s ↦ let both : f x ≡ false = same x ∙ rw (t, s) refl in rw (both, t, s) (filter_both f g h same xs)
  ]
  | inr t ↦ let both : f x ≡ false = same x ∙ rw t refl in rw (both, t) (filter_both f g h same xs)
]

stays_more : (p : ℕ) (es : List Effect) (e : Effect) (h : Held) → stays p (es ++ e ∷ []) h ≡ not (list_any (goes_from p h.id) es || goes_from p h.id e)
stays_more p es e h =
    ap not (list_any-append (goes_from p h.id) es (e ∷ []) ∙ ap (λ (t : Bool). list_any (goes_from p h.id) es || t) (or_false (goes_from p h.id e)))

-- an effect by which none goes from the place
held_more : (p : ℕ) (es : List Effect) (e : Effect) → ((id : ℕ) → goes_from p id e ≡ false)
    → held_in p (es ++ e ∷ []) ≡ held_in p es ++ filter (stays p es) (stored_in p e)
held_more p es e none =
    filter_same (stays p (es ++ e ∷ [])) (stays p es)
    (λ h. stays_more p es e h ∙ ap not (ap (λ (t : Bool). list_any (goes_from p h.id) es || t) (none h.id) ∙ or_false (list_any (goes_from p h.id) es)))
    (flat_map (stored_in p) (es ++ e ∷ []))
    ∙ ap (filter (stays p es))
    (flat_map-append (stored_in p) es (e ∷ []) ∙ ap (λ (hs : List Held). flat_map (stored_in p) es ++ hs) (append-nil (stored_in p e)))
    ∙ filter-append (stays p es) (flat_map (stored_in p) es) (stored_in p e)

not_or : (a b : Bool) → not (a || b) ≡ (not a && not b)
not_or true b = refl
not_or false b = refl

turned : (a b : ℕ) → (a == b) ≡ (b == a)
turned a b = elim (cases_Bool (b == a)) [
  | inl t ↦ eq-eqb a b (sym (eqb-true b a t)) ∙ sym t
  | inr t ↦ ne_eqb a b (λ same. absurd (let wrong : true ≡ false = sym (eq-eqb b a (sym same)) ∙ t in cc)) ∙ sym t
]

-- one by which the entries of an id go
held_less : (p id : ℕ) (es : List Effect) (e : Effect) → ((i : ℕ) → goes_from p i e ≡ (id == i)) → stored_in p e ≡ []
    → held_in p (es ++ e ∷ []) ≡ filter (λ h. not (h.id == id)) (held_in p es)
held_less p id es e goes none =
    filter_both (stays p (es ++ e ∷ [])) (stays p es) (λ h. not (h.id == id))
    (λ h. stays_more p es e h ∙ ap (λ (t : Bool). not (list_any (goes_from p h.id) es || t)) (goes h.id ∙ turned id h.id)
    ∙ not_or (list_any (goes_from p h.id) es) (h.id == id))
    (flat_map (stored_in p) (es ++ e ∷ []))
    ∙ ap (λ (hs : List Held). filter (λ (h : Held). not (h.id == id)) (filter (stays p es) hs))
    (flat_map-append (stored_in p) es (e ∷ []) ∙ ap (λ (hs : List Held). flat_map (stored_in p) es ++ hs) (append-nil (stored_in p e) ∙ none)
    ∙ append-nil (flat_map (stored_in p) es))

-- ---- both

abbrev shelf : List Held → List ℕ → Shelf
shelf hs ids = record { held = hs; gone = ids }

shelf_is : (h k : List Held) (g l : List ℕ) → h ≡ k → g ≡ l → shelf h g ≡ shelf k l
shelf_is h k g l a b = ap₂ shelf a b

quiet : (p : ℕ) (es : List Effect) (e : Effect) → ((id : ℕ) → goes_from p id e ≡ false) → stored_in p e ≡ [] → gone_from p e ≡ []
    → shelf_of p es ≡ shelf_of p (es ++ e ∷ [])
quiet p es e away none kept =
    shelf_is _ _ _ _
    (sym (held_more p es e away ∙ ap (λ (hs : List Held). held_in p es ++ filter (stays p es) hs) none ∙ append-nil (held_in p es)))
    (sym (gone_more p es e ∙ ap (λ (ys : List ℕ). flat_map (gone_from p) es ++ ys) kept ∙ append-nil (flat_map (gone_from p) es)))

stored : (p : ℕ) (es : List Effect) (e : Effect) (h : Held) → ((id : ℕ) → goes_from p id e ≡ false) → stored_in p e ≡ h ∷ [] → gone_from p e ≡ []
    → with_entry (shelf_of p es) h ≡ shelf_of p (es ++ e ∷ [])
stored p es e h away one kept =
    let gone : flat_map (gone_from p) (es ++ e ∷ []) ≡ flat_map (gone_from p) es =
    gone_more p es e ∙ ap (λ (ys : List ℕ). flat_map (gone_from p) es ++ ys) kept ∙ append-nil (flat_map (gone_from p) es) in
    let held : held_in p (es ++ e ∷ []) ≡ held_in p es ++ filter (stays p es) (h ∷ []) =
    held_more p es e away ∙ ap (λ (hs : List Held). held_in p es ++ filter (stays p es) hs) one in
    let same : is_in h.id (flat_map (gone_from p) es) ≡ list_any (goes_from p h.id) es = went p h.id es in
    elim (cases_Bool (list_any (goes_from p h.id) es)) [
      | inl t ↦
          let is : is_in h.id (flat_map (gone_from p) es) ≡ true = same ∙ t in
          let out : filter (stays p es) (h ∷ []) ≡ [] = rw t refl in
          rw is (shelf_is _ _ _ _ (sym (held ∙ ap (λ (hs : List Held). held_in p es ++ hs) out ∙ append-nil (held_in p es))) (sym gone))
      | inr t ↦
          let is : is_in h.id (flat_map (gone_from p) es) ≡ false = same ∙ t in
          let out : filter (stays p es) (h ∷ []) ≡ h ∷ [] = rw t refl in
          rw is (shelf_is _ _ _ _ (sym (held ∙ ap (λ (hs : List Held). held_in p es ++ hs) out)) (sym gone))
    ]

left : (p id : ℕ) (es : List Effect) (e : Effect) → ((i : ℕ) → goes_from p i e ≡ (id == i)) → stored_in p e ≡ [] → gone_from p e ≡ id ∷ []
    → without (shelf_of p es) id ≡ shelf_of p (es ++ e ∷ [])
left p id es e goes none one =
    shelf_is _ _ _ _ (sym (held_less p id es e goes none)) (sym (gone_more p es e ∙ ap (λ (ys : List ℕ). flat_map (gone_from p) es ++ ys) one))

pub shelf_more : (p : ℕ) (es : List Effect) (e : Effect) → shelf_after p (shelf_of p es) e ≡ shelf_of p (es ++ e ∷ [])
shelf_more p es (effects.Stored place id src seq prio) = elim (cases_Bool (place == p)) [
  | inl t ↦ rw t (stored p es (effects.Stored place id src seq prio) (record { id = id; src = src.0; seq = seq; prio = prio }) (λ i. refl) (rw t refl) refl)
  | inr t ↦ rw t (quiet p es (effects.Stored place id src seq prio) (λ i. refl) (rw t refl) refl)
]
shelf_more p es (effects.Gone place id why) = elim (cases_Bool (place == p)) [
  | inl t ↦ rw t (left p id es (effects.Gone place id why) (λ i. rw t refl) refl (rw t refl))
  | inr t ↦ rw t (quiet p es (effects.Gone place id why) (λ i. rw t refl) refl (rw t refl))
]
shelf_more p es (effects.Delivered src seq payload) = quiet p es (effects.Delivered src seq payload) (λ i. refl) refl refl
shelf_more p es (effects.DeliveredPrio src seq payload) = quiet p es (effects.DeliveredPrio src seq payload) (λ i. refl) refl refl
shelf_more p es (effects.DeliveredKrel src seq payload) = quiet p es (effects.DeliveredKrel src seq payload) (λ i. refl) refl refl
shelf_more p es (effects.Signed bytes) = quiet p es (effects.Signed bytes) (λ i. refl) refl refl
shelf_more p es (effects.WeightHeld origin edge seq weight) = quiet p es (effects.WeightHeld origin edge seq weight) (λ i. refl) refl refl
shelf_more p es (effects.Ended flow) = quiet p es (effects.Ended flow) (λ i. refl) refl refl
shelf_more p es (effects.Kended flow) = quiet p es (effects.Kended flow) (λ i. refl) refl refl
shelf_more p es (effects.Version version) = quiet p es (effects.Version version) (λ i. refl) refl refl

-- ---- effects that come one after another

shares_join : (capacity p : ℕ) (before xs ys : List Effect) → AreShares capacity p before xs → AreShares capacity p (before ++ xs) ys
    → AreShares capacity p before (xs ++ ys)
shares_join capacity p before [] ys first rest = subst (λ (zs : List Effect). AreShares capacity p zs ys) (append-nil before) rest
shares_join capacity p before (e ∷ xs) ys first rest = (
  first.0,
  shares_join capacity p (before ++ e ∷ []) xs ys first.1
      (subst (λ (zs : List Effect). AreShares capacity p zs ys) (sym (append_assoc before (e ∷ []) xs)) rest),
)

shares_later : (capacity p : ℕ) (before xs ys : List Effect) → AreShares capacity p before (xs ++ ys) → AreShares capacity p (before ++ xs) ys
shares_later capacity p before [] ys all = subst (λ (zs : List Effect). AreShares capacity p zs ys) (sym (append-nil before)) all
shares_later capacity p before (e ∷ xs) ys all =
    subst (λ (zs : List Effect). AreShares capacity p zs ys) (append_assoc before (e ∷ []) xs) (shares_later capacity p (before ++ e ∷ []) xs ys all.1)

shares_front : (capacity p : ℕ) (before xs ys : List Effect) → AreShares capacity p before (xs ++ ys) → AreShares capacity p before xs
shares_front capacity p before [] ys all = tt
shares_front capacity p before (e ∷ xs) ys all = (all.0, shares_front capacity p (before ++ e ∷ []) xs ys all.1)

-- none came
pub takes_none : (capacity p : ℕ) (s : Shelf) → TakesAll capacity p s [] s true
takes_none capacity p s before is shares =
    (subst (λ (xs : List Effect). s ≡ shelf_of p xs) (sym (append-nil before)) is, subst (AreShares capacity p []) (sym (append-nil before)) shares)

-- some, and more after them
pub takes_more : (capacity p : ℕ) (old middle new : Shelf) (xs ys : List Effect) (fine : Bool) → TakesAll capacity p old xs middle true
    → TakesAll capacity p middle ys new fine → TakesAll capacity p old (xs ++ ys) new fine
takes_more capacity p old middle new xs ys true first more before is shares =
    let a = first before is shares in
    let b = more (before ++ xs) a.0 a.1 in
    (subst (λ (zs : List Effect). new ≡ shelf_of p zs) (append_assoc before xs ys) b.0, subst (AreShares capacity p []) (append_assoc before xs ys) b.1)
takes_more capacity p old middle new xs ys false first more before is shares =
    let a = first before is shares in
    λ all. more (before ++ xs) a.0 a.1 (subst (AreShares capacity p []) (sym (append_assoc before xs ys)) all)

-- one that didn't leave its share, whatever follows
pub takes_no_more : (capacity p : ℕ) (old middle new : Shelf) (xs ys rest : List Effect) → TakesAll capacity p old xs middle true
    → TakesAll capacity p middle ys new false → TakesAll capacity p old (xs ++ (ys ++ rest)) new false
takes_no_more capacity p old middle new xs ys rest first more before is shares =
    let a = first before is shares in
    let parts : before ++ (xs ++ (ys ++ rest)) ≡ ((before ++ xs) ++ ys) ++ rest =
    sym (append_assoc before xs (ys ++ rest)) ∙ sym (append_assoc (before ++ xs) ys rest) in
    λ all. more (before ++ xs) a.0 a.1 (shares_front capacity p [] ((before ++ xs) ++ ys) rest (subst (AreShares capacity p []) parts all))

-- one that leaves its share
pub takes_one : (capacity p : ℕ) (s new : Shelf) (e : Effect) → ShareIf capacity p s.held e → new ≡ shelf_after p s e → TakesAll capacity p s (e ∷ []) new true
takes_one capacity p s new e share after before is shares = (
  after ∙ ap (λ (t : Shelf). shelf_after p t e) is ∙ shelf_more p before e,
  shares_join capacity p [] before (e ∷ []) shares (subst (λ (t : Shelf). ShareIf capacity p t.held e) is share, tt),
)

-- and one that doesn't
pub takes_no_one : (capacity p : ℕ) (s new : Shelf) (e : Effect) → (ShareIf capacity p s.held e → ⊥) → TakesAll capacity p s (e ∷ []) new false
takes_no_one capacity p s new e none before is shares = λ all.
    none (subst (λ (t : Shelf). ShareIf capacity p t.held e) (sym is) (shares_later capacity p [] before (e ∷ []) all).0)
