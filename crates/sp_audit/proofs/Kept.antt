-- A run keeps its promises after so many events where each pair of numbers does, and above the greatest number that it names each does.
use Rattle.std.proofs.Common.{◌≡◌, ◌<◌, ◌≤◌, ℕ, zero, suc, ◌+◌, Bool, true, false, not, List, [], ◌∷◌, ◌++◌, length, map, min, filter, take, refl, sym}
use Rattle.std.proofs.Common.{ap, subst, ◌∙◌, inl, inr, arith, IsTrue}
use Rattle.std.specs.Prelude.{◌==◌, ◌⊎◌, if◌then◌else◌}
use Rattle.std.specs.List.{All, flat_map, list_any}
use Rattle.std.proofs.lemmas.Bool.{cases_lt, ne_eqb}
use Rattle.std.proofs.lemmas.List.Elements.{All-append, All-head, All-nil, All-tail, All-take}
use Rattle.laws_runs.proofs.Lists.{as_they_are}
use Rattle.laws_runs.specs.Good.{AreGood, IsGood}
use Rattle.laws_runs.specs.Priority.{AreOnce}
use Rattle.sp_base.specs.Lists.{IsPrefix}
use Rattle.sp_base.specs.declared.id.NodeId.{NodeId}
use Rattle.sp_journal.specs.declared.entry.Entry.{Entry}
use Rattle.sp_msg.specs.declared.effect.Effect.{Effect}
use Rattle.sp_msg.specs.declared.effect.Effect.TheVariants as effects
use Rattle.sp_msg.specs.declared.effect.Why.TheVariants.{Acked, Evicted, Expired, Taken, Withdrawn}
use Rattle.sp_rules.specs.declared.kflow.FlowKind.{FlowKind}
use Rattle.sp_rules.specs.declared.kflow.FlowKind.TheVariants as kinds
use Rattle.sp_runs.specs.Held.{AreShares, Held, ShareIf, goes_from, held_in, stored_in}
use Rattle.sp_runs.specs.Inputs.{acting}
use Rattle.sp_runs.specs.Settings.{Setting, is_correct}
use Rattle.sp_runs.specs.Told.{delivered_by, effects_at, prio_by, sent, told_at}
use Rattle.sp_schedule_events.specs.declared.event.Event.{Event}
use Rattle.sp_audit.specs.Firsts.{ComesOnce, IsFirst, KeepsAt, KeepsOrder, KeepsOrders, KeepsPlace, effects_to, id}
use Rattle.sp_audit.specs.Tops.{IsTop, names}
use Rattle.sp_audit.specs.Refusals.{IsFirstBroken}
use Rattle.sp_audit.proofs.Firsts.{first_both, first_same}
use Rattle.sp_audit.proofs.Walks.{take_all, told_of_effects}

-- ---- all pairs

pub good_from : (x : Setting) (es : List Event) (js : List Entry) (m : ℕ) → ((a b : ℕ) → KeepsAt x es js a b m) → IsGood x (take m es) (take m js)
good_from x es js m keeps = record {
  prefix = λ kind s d a b. subst (λ (xs : List _). IsPrefix xs (sent kind (take m es) (take m js) s d))
      (sym (told_of_effects (delivered_by kind s) d (take m es) (take m js))) ((keeps s.0 d.0).order a b kind);
  once = λ s d b. subst (λ (xs : List _). AreOnce (map (λ k. k.0) xs)) (sym (told_of_effects (prio_by s) d (take m es) (take m js))) ((keeps s.0 d.0).once b);
  bounded = λ u place. (keeps u.0 place).place.0;
  shares = λ u place. (keeps u.0 place).place.1;
}

pub keeps_from : (x : Setting) (es : List Event) (js : List Entry) (m : ℕ) → IsGood x (take m es) (take m js) → (a b : ℕ) → KeepsAt x es js a b m
keeps_from x es js m good a b = record {
  order = λ s d kind. subst (λ (xs : List _). IsPrefix xs (sent kind (take m es) (take m js) (id a) (id b)))
      (told_of_effects (delivered_by kind (id a)) (id b) (take m es) (take m js)) (good.prefix kind (id a) (id b) s d);
  once = λ d. subst (λ (xs : List _). AreOnce (map (λ k. k.0) xs)) (told_of_effects (prio_by (id a)) (id b) (take m es) (take m js))
      (good.once (id a) (id b) d);
  place = (good.bounded (id a) b, good.shares (id a) b);
}

-- ---- above the greatest number

-- a node above it does nothing
none_acts : (top : ℕ) (u : NodeId) → top < u.0 → (es : List Event) (js : List Entry) → All (λ e. (acting e).0 ≤ top) es → effects_at es js u ≡ []
none_acts top u above [] js acts = refl
none_acts top u above (e ∷ es) [] acts = refl
none_acts top u above (e ∷ es) (j ∷ js) acts =
    let low : (acting e).0 ≤ top = All-head (λ (y : Event). (acting y).0 ≤ top) e es acts in
    let other : ((acting e).0 == u.0) ≡ false = ne_eqb (acting e).0 u.0 (λ same. absurd (omega (arith, low, same, above))) in
    rw other (none_acts top u above es js (All-tail (λ (y : Event). (acting y).0 ≤ top) e es acts))

abbrev Low : ℕ → List Effect → Type 0
Low top fs = All (λ e. names e ≤ top) fs

-- the effects of a node name no number above it
all_low : (top : ℕ) (u : NodeId) (es : List Event) (js : List Entry) → All (λ j. All (λ e. names e ≤ top) j.effects) js → Low top (effects_at es js u)
all_low top u [] js told = All-nil (λ e. names e ≤ top)
all_low top u (e ∷ es) [] told = All-nil (λ e. names e ≤ top)
all_low top u (e ∷ es) (j ∷ js) told =
    let P : Effect → Type 0 = λ f. names f ≤ top in
    let here : Low top j.effects = All-head (λ (k : Entry). All P k.effects) j js told in
    let rest : Low top (effects_at es js u) = all_low top u es js (All-tail (λ (k : Entry). All P k.effects) j js told) in
    All-append P (told_at u (λ f. f ∷ []) (e, j)) (effects_at es js u) (one ((acting e).0 == u.0) here) rest
  where
    one : (t : Bool) → Low top j.effects → Low top (if t then flat_map (λ f. f ∷ []) j.effects else [])
    one true here = subst (Low top) (sym (as_they_are j.effects)) here
    one false here = All-nil (λ f. names f ≤ top)

-- so of a source above it none is told
none_told : {X : Type 0} (top s : ℕ) → top < s → (tells : Effect → List X) → ((e : Effect) → names e ≤ top → tells e ≡ []) → (fs : List Effect) → Low top fs
    → flat_map tells fs ≡ []
none_told top s above tells none [] low = refl
none_told top s above tells none (e ∷ fs) low =
    rw (none e (All-head (λ (f : Effect). names f ≤ top) e fs low)) (none_told top s above tells none fs (All-tail (λ (f : Effect). names f ≤ top) e fs low))

apart : (n top s : ℕ) → n ≤ top → top < s → (n == s) ≡ false
apart n top s low above = ne_eqb n s (λ same. absurd (omega arith))

no_delivery : (kind : FlowKind) (top s : ℕ) → top < s → (e : Effect) → names e ≤ top → delivered_by kind (id s) e ≡ []
no_delivery kinds.Plain top s above (effects.Delivered src seq payload) low = rw (apart src.0 top s low above) refl
no_delivery kinds.Plain top s above (effects.DeliveredPrio src seq payload) low = refl
no_delivery kinds.Plain top s above (effects.DeliveredKrel src seq payload) low = refl
no_delivery kinds.Plain top s above (effects.Stored place i src seq prio) low = refl
no_delivery kinds.Plain top s above (effects.Gone place i why) low = refl
no_delivery kinds.Plain top s above (effects.Signed bytes) low = refl
no_delivery kinds.Plain top s above (effects.WeightHeld origin edge seq weight) low = refl
no_delivery kinds.Plain top s above (effects.Ended flow) low = refl
no_delivery kinds.Plain top s above (effects.Kended flow) low = refl
no_delivery kinds.Plain top s above (effects.Version version) low = refl
no_delivery kinds.Paths top s above (effects.Delivered src seq payload) low = refl
no_delivery kinds.Paths top s above (effects.DeliveredPrio src seq payload) low = refl
no_delivery kinds.Paths top s above (effects.DeliveredKrel src seq payload) low = rw (apart src.0 top s low above) refl
no_delivery kinds.Paths top s above (effects.Stored place i src seq prio) low = refl
no_delivery kinds.Paths top s above (effects.Gone place i why) low = refl
no_delivery kinds.Paths top s above (effects.Signed bytes) low = refl
no_delivery kinds.Paths top s above (effects.WeightHeld origin edge seq weight) low = refl
no_delivery kinds.Paths top s above (effects.Ended flow) low = refl
no_delivery kinds.Paths top s above (effects.Kended flow) low = refl
no_delivery kinds.Paths top s above (effects.Version version) low = refl

no_prio : (top s : ℕ) → top < s → (e : Effect) → names e ≤ top → prio_by (id s) e ≡ []
no_prio top s above (effects.DeliveredPrio src seq payload) low = rw (apart src.0 top s low above) refl
no_prio top s above (effects.Delivered src seq payload) low = refl
no_prio top s above (effects.DeliveredKrel src seq payload) low = refl
no_prio top s above (effects.Stored place i src seq prio) low = refl
no_prio top s above (effects.Gone place i why) low = refl
no_prio top s above (effects.Signed bytes) low = refl
no_prio top s above (effects.WeightHeld origin edge seq weight) low = refl
no_prio top s above (effects.Ended flow) low = refl
no_prio top s above (effects.Kended flow) low = refl
no_prio top s above (effects.Version version) low = refl

no_entry : (top p : ℕ) → top < p → (e : Effect) → names e ≤ top → stored_in p e ≡ []
no_entry top p above (effects.Stored place i src seq prio) low = rw (apart place top p low above) refl
no_entry top p above (effects.Delivered src seq payload) low = refl
no_entry top p above (effects.DeliveredKrel src seq payload) low = refl
no_entry top p above (effects.DeliveredPrio src seq payload) low = refl
no_entry top p above (effects.Gone place i why) low = refl
no_entry top p above (effects.Signed bytes) low = refl
no_entry top p above (effects.WeightHeld origin edge seq weight) low = refl
no_entry top p above (effects.Ended flow) low = refl
no_entry top p above (effects.Kended flow) low = refl
no_entry top p above (effects.Version version) low = refl

no_eviction : (capacity top p : ℕ) → top < p → (before fs : List Effect) → Low top fs → AreShares capacity p before fs
no_eviction capacity top p above before [] low = tt
no_eviction capacity top p above before (e ∷ fs) low = (
  one e (All-head (λ (f : Effect). names f ≤ top) e fs low),
  no_eviction capacity top p above (before ++ e ∷ []) fs (All-tail (λ (f : Effect). names f ≤ top) e fs low),
)
  where
    one : (e : Effect) → names e ≤ top → ShareIf capacity p (held_in p before) e
    one (effects.Gone place i Evicted) here = λ same. absurd (omega (arith, here, same, above))
    one (effects.Gone place i Expired) here = tt
    one (effects.Gone place i Acked) here = tt
    one (effects.Gone place i Taken) here = tt
    one (effects.Gone place i Withdrawn) here = tt
    one (effects.Stored place i src seq prio) here = tt
    one (effects.Delivered src seq payload) here = tt
    one (effects.DeliveredPrio src seq payload) here = tt
    one (effects.DeliveredKrel src seq payload) here = tt
    one (effects.Signed bytes) here = tt
    one (effects.WeightHeld origin edge seq weight) here = tt
    one (effects.Ended flow) here = tt
    one (effects.Kended flow) here = tt
    one (effects.Version version) here = tt

-- what is kept where no effect tells otherwise
record IsMute (x : Setting) (es : List Event) (js : List Entry) (a b m : ℕ) : Type 0 where
  deliveries : (kind : FlowKind) → flat_map (delivered_by kind (id a)) (effects_to es js (id b) m) ≡ []
  prios : flat_map (prio_by (id a)) (effects_to es js (id b) m) ≡ []
  entries : flat_map (stored_in b) (effects_to es js (id a) m) ≡ []
  shares : AreShares x.store b [] (effects_to es js (id a) m)

none_held : (capacity p : ℕ) (fs : List Effect) → flat_map (stored_in p) fs ≡ [] → length (held_in p fs) ≤ capacity
none_held capacity p fs none =
    subst (λ (hs : List Held). length (filter (λ (h : Held). not (list_any (goes_from p h.id) fs)) hs) ≤ capacity) (sym none) (omega arith)

mute_keeps : (x : Setting) (es : List Event) (js : List Entry) (a b m : ℕ) → IsMute x es js a b m → KeepsAt x es js a b m
mute_keeps x es js a b m mute = record {
  order = λ s d kind. subst (λ (xs : List _). IsPrefix xs (sent kind (take m es) (take m js) (id a) (id b))) (sym (mute.deliveries kind))
      (sent kind (take m es) (take m js) (id a) (id b), refl);
  once = λ d. subst (λ (xs : List _). AreOnce (map (λ k. k.0) xs)) (sym mute.prios) (λ i j e less inside. absurd (omega (arith, inside)));
  place = (none_held x.store b (effects_to es js (id a) m) mute.entries, mute.shares);
}

-- none does at numbers of which one is above the greatest
mute : (x : Setting) (es : List Event) (js : List Entry) (top : ℕ) → IsTop es js top → (a b m : ℕ) → (top < a) ⊎ (top < b) → IsMute x es js a b m
mute x es js top is a b m (inl above) =
    let acts = All-take (λ (e : Event). (acting e).0 ≤ top) m es is.acts in
    let told = All-take (λ (j : Entry). All (λ (e : Effect). names e ≤ top) j.effects) m js is.told in
    let low = all_low top (id b) (take m es) (take m js) told in
    let none = none_acts top (id a) above (take m es) (take m js) acts in
    record {
      deliveries = λ kind. none_told top a above (delivered_by kind (id a)) (no_delivery kind top a above) (effects_to es js (id b) m) low;
      prios = none_told top a above (prio_by (id a)) (no_prio top a above) (effects_to es js (id b) m) low;
      entries = ap (flat_map (stored_in b)) none;
      shares = subst (AreShares x.store b []) (sym none) tt;
    }
mute x es js top is a b m (inr above) =
    let acts = All-take (λ (e : Event). (acting e).0 ≤ top) m es is.acts in
    let told = All-take (λ (j : Entry). All (λ (e : Effect). names e ≤ top) j.effects) m js is.told in
    let low = all_low top (id a) (take m es) (take m js) told in
    let none = none_acts top (id b) above (take m es) (take m js) acts in
    record {
      deliveries = λ kind. ap (flat_map (delivered_by kind (id a))) none;
      prios = ap (flat_map (prio_by (id a))) none;
      entries = none_told top b above (stored_in b) (no_entry top b above) (effects_to es js (id a) m) low;
      shares = no_eviction x.store top b above [] (effects_to es js (id a) m) low;
    }

pub above_keeps : (x : Setting) (es : List Event) (js : List Entry) (top : ℕ) → IsTop es js top → (a b m : ℕ) → (top < a) ⊎ (top < b) → KeepsAt x es js a b m
above_keeps x es js top is a b m above = mute_keeps x es js a b m (mute x es js top is a b m above)

-- ---- whole runs

good_start : (x : Setting) → IsGood x [] []
good_start x = record {
  prefix = λ kind s d a b. ([], refl);
  once = λ s d b i j none less inside. absurd (omega (arith, inside));
  bounded = λ u place. omega arith;
  shares = λ u place. tt;
}

-- what is kept below one more than the greatest number is kept at each pair
all_keep : (x : Setting) (es : List Event) (js : List Entry) (top : ℕ) → IsTop es js top → (m : ℕ)
    → ((a : ℕ) → a < top + 1 → (b : ℕ) → b < top + 1 → KeepsAt x es js a b m) → (a b : ℕ) → KeepsAt x es js a b m
all_keep x es js top is m keeps a b = elim (cases_lt top a) [
  | inl above ↦ above_keeps x es js top is a b m (inl above)
  | inr low ↦ elim (cases_lt top b) [
    | inl above ↦ above_keeps x es js top is a b m (inr above)
    | inr down ↦ keeps a (omega arith) b (omega arith)
  ]
]

-- so the first number of events after which something isn't kept is the first after which a promise is broken
pub first_broken : (x : Setting) (es : List Event) (js : List Entry) (top n : ℕ) → IsTop es js top
    → IsFirst (λ m. (a : ℕ) → a < top + 1 → (b : ℕ) → b < top + 1 → KeepsAt x es js a b m) (length es) n
    → IsFirst (λ m. IsGood x (take m es) (take m js)) (length es) n
first_broken x es js top n is first =
    first_same (λ m. (a : ℕ) → a < top + 1 → (b : ℕ) → b < top + 1 → KeepsAt x es js a b m) (λ m. IsGood x (take m es) (take m js)) (length es) n
    (λ m keeps. good_from x es js m (all_keep x es js top is m keeps)) (λ m good a under b below. keeps_from x es js m good a b) first

-- where there is one it is that of an event
pub broken_at : (x : Setting) (es : List Event) (js : List Entry) (n : ℕ) → n ≤ length es → IsFirst (λ m. IsGood x (take m es) (take m js)) (length es) n
    → IsFirstBroken x es js n
broken_at x es js zero within first = absurd (first.fails within (good_start x))
broken_at x es js (suc n) within first = record { there = (omega arith, within); before = first.before; broken = first.fails within }

-- and where there is none, none is broken
pub none_broken : (x : Setting) (es : List Event) (js : List Entry) (n : ℕ) → length es ≡ length js → length es < n
    → IsFirst (λ m. IsGood x (take m es) (take m js)) (length es) n
    → AreGood x es js
none_broken x es js n even past first m = elim (cases_lt (length es) m) [
  | inr within ↦ first.before m (omega arith)
  | inl over ↦
      let es_is : take (length es) es ≡ take m es = take_all es (length es) (omega arith) ∙ sym (take_all es m (omega arith)) in
      let js_is : take (length es) js ≡ take m js = take_all js (length es) (omega arith) ∙ sym (take_all js m (omega arith)) in
      subst (λ (ys : List Entry). IsGood x (take m es) ys) js_is
      (subst (λ (xs : List Event). IsGood x xs (take (length es) js)) es_is (first.before (length es) past))
]

-- ---- one pair of numbers

-- what is kept in flows of each of the two kinds is kept in those of any
pub first_of_kinds : (es : List Event) (js : List Entry) (s d : NodeId) (last i j : ℕ) → IsFirst (KeepsOrder kinds.Plain es js s d) last i
    → IsFirst (KeepsOrder kinds.Paths es js s d) last j → IsFirst (KeepsOrders es js s d) last (min i j)
first_of_kinds es js s d last i j plain paths =
    first_same (λ m. KeepsOrder kinds.Plain es js s d m × KeepsOrder kinds.Paths es js s d m) (KeepsOrders es js s d) last
    (min i j) (λ m both kind. each m both kind) (λ m all. (all kinds.Plain, all kinds.Paths))
    (first_both (KeepsOrder kinds.Plain es js s d) (KeepsOrder kinds.Paths es js s d) last i j plain paths)
  where
    each : (m : ℕ) → KeepsOrder kinds.Plain es js s d m × KeepsOrder kinds.Paths es js s d m → (kind : FlowKind) → KeepsOrder kind es js s d m
    each m both kinds.Plain = both.0
    each m both kinds.Paths = both.1

-- of two correct nodes
pub first_of_both : (x : Setting) (es : List Event) (js : List Entry) (a b last i j k : ℕ) → IsTrue (is_correct x (id b)) → IsTrue (is_correct x (id a))
    → IsFirst (KeepsPlace x.store es js (id a) b) last i → IsFirst (ComesOnce es js (id a) (id b)) last j → IsFirst (KeepsOrders es js (id a) (id b)) last k
    → IsFirst (KeepsAt x es js a b) last (min (min i j) k)
first_of_both x es js a b last i j k to from place once order =
    first_same (λ m. (KeepsPlace x.store es js (id a) b m × ComesOnce es js (id a) (id b) m) × KeepsOrders es js (id a) (id b) m) (KeepsAt x es js a b) last
    (min (min i j) k)
    (λ m all. record { order = λ s d. all.1; once = λ d. all.0.1; place = all.0.0 })
    (λ m keeps. ((keeps.place, keeps.once to), keeps.order from to))
    (first_both (λ m. KeepsPlace x.store es js (id a) b m × ComesOnce es js (id a) (id b) m) (KeepsOrders es js (id a) (id b)) last (min i j) k
    (first_both (KeepsPlace x.store es js (id a) b) (ComesOnce es js (id a) (id b)) last i j place once) order)

-- of a second node that alone is correct
pub first_of_one : (x : Setting) (es : List Event) (js : List Entry) (a b last i j : ℕ) → IsTrue (is_correct x (id b)) → is_correct x (id a) ≡ false
    → IsFirst (KeepsPlace x.store es js (id a) b) last i → IsFirst (ComesOnce es js (id a) (id b)) last j → IsFirst (KeepsAt x es js a b) last (min i j)
first_of_one x es js a b last i j to bad place once =
    first_same (λ m. KeepsPlace x.store es js (id a) b m × ComesOnce es js (id a) (id b) m) (KeepsAt x es js a b) last (min i j)
    (λ m all. record { order = λ s d. absurd (let wrong : true ≡ false = sym s ∙ bad in let no : ⊥ = cc in no); once = λ d. all.1; place = all.0 })
    (λ m keeps. (keeps.place, keeps.once to))
    (first_both (KeepsPlace x.store es js (id a) b) (ComesOnce es js (id a) (id b)) last i j place once)
