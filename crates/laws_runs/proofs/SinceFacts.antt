-- What one event more adds to what a node told since its last start; and that without epochs this is all that it told.
use Rattle.std.proofs.Common.{◌≡◌, ◌==◌, ◌||◌, Bool, true, false, cond, List, [], ◌∷◌, ◌++◌, length, refl, sym, ap, subst, ◌∙◌, inl, inr}
use Rattle.std.specs.Prelude.{not}
use Rattle.std.specs.List.{flat_map, list_any, zip}
use Rattle.std.proofs.Math.Bool.{or-false}
use Rattle.std.proofs.lemmas.Bool.{cases_Bool}
use Rattle.std.proofs.lemmas.List.{append-nil}
use Rattle.std.proofs.lemmas.List.Concat.{flat_map-append}
use Rattle.std.proofs.lemmas.List.Folds.{list_any-append}
use Rattle.sp_base.proofs.ListLemmas.{zip-push}
use Rattle.sp_base.specs.declared.id.NodeId.{NodeId}
use Rattle.sp_msg.specs.declared.effect.Effect.{Effect}
use Rattle.sp_rules.specs.Arts.{Arts}
use Rattle.sp_runs.specs.Inputs.{acting}
use Rattle.sp_runs.specs.Lives.{IsOther}
use Rattle.sp_runs.specs.Runs.{Clean, InRange, Move, Starts, Turned}
use Rattle.sp_runs.specs.Settings.{Setting}
use Rattle.sp_runs.specs.Told.{effects_at, told_at}
use Rattle.sp_runs.specs.Worlds.{World}
use Rattle.sp_journal.specs.declared.entry.Entry.{Entry}
use Rattle.sp_schedule_events.specs.Lives.{is_started, may_act}
use Rattle.sp_schedule_events.specs.declared.event.Event.{Event}
use Rattle.sp_schedule_events.specs.declared.event.Event.TheVariants as events
use Rattle.laws_runs.specs.Since.{after_last, effects_since, is_start_of}
use Rattle.laws_runs.proofs.LifeCases.{Begins, Ends, Kind, Other, kind_of}
use Rattle.laws_runs.proofs.Lists.{as_they_are, both, here_is, or_true, told_more}
use Rattle.laws_runs.proofs.SignedEvents.{even}
use Rattle.laws_runs.proofs.Started.{moves_other}

-- ---- behind the last that passes

any_more : {X : Type 0} (p : X → Bool) (xs : List X) (y : X) → list_any p (xs ++ y ∷ []) ≡ (list_any p xs || p y)
any_more p xs y = list_any-append p xs (y ∷ []) ∙ ap (λ t. list_any p xs || t) (or-false (p y))

-- one more that doesn't pass stands behind it too
last_more : {X : Type 0} (p : X → Bool) (xs : List X) (y : X) → p y ≡ false → after_last p (xs ++ y ∷ []) ≡ after_last p xs ++ y ∷ []
last_more p [] y fails = rw fails refl
last_more p (x ∷ xs) y fails =
    let same : list_any p (xs ++ y ∷ []) ≡ list_any p xs = any_more p xs y ∙ ap (λ t. list_any p xs || t) fails ∙ or-false (list_any p xs) in
    elim (cases_Bool (list_any p xs)) [
      | inl some ↦ rw (same, some) (last_more p xs y fails)
      | inr none ↦ elim (cases_Bool (p x)) [
        | inl t ↦ rw (same, none, t) refl
        | inr t ↦ rw (same, none, t) refl
      ]
    ]

-- and nothing stands behind one more that passes
last_is : {X : Type 0} (p : X → Bool) (xs : List X) (y : X) → p y ≡ true → after_last p (xs ++ y ∷ []) ≡ []
last_is p [] y passes = rw passes refl
last_is p (x ∷ xs) y passes =
    let some : list_any p (xs ++ y ∷ []) ≡ true = any_more p xs y ∙ ap (λ t. list_any p xs || t) passes ∙ or_true (list_any p xs) in
    rw some (last_is p xs y passes)

-- ---- one event more

module _ (es : List Event) (js : List Entry) (e : Event) (j : Entry) (same : length es ≡ length js) (u : NodeId) where
  abbrev tells : Event × Entry → List Effect
  tells = told_at u (λ y. y ∷ [])

  abbrev starts_it : Event × Entry → Bool
  starts_it p = is_start_of u p.0

  pub all_more : effects_at (es ++ e ∷ []) (js ++ j ∷ []) u ≡ effects_at es js u ++ told_at u (λ y. y ∷ []) (e, j)
  all_more = told_more tells es js e j same

  pub since_more : is_start_of u e ≡ false
      → effects_since (es ++ e ∷ []) (js ++ j ∷ []) u ≡ effects_since es js u ++ told_at u (λ y. y ∷ []) (e, j)
  since_more fails =
      ap (λ ps. flat_map tells (after_last starts_it ps)) (zip-push es js e j same)
      ∙ ap (flat_map tells) (last_more starts_it (zip es js) (e, j) fails)
      ∙ flat_map-append tells (after_last starts_it (zip es js)) ((e, j) ∷ [])
      ∙ ap (λ t. effects_since es js u ++ t) (append-nil (tells (e, j)))

  pub since_start : is_start_of u e ≡ true → effects_since (es ++ e ∷ []) (js ++ j ∷ []) u ≡ []
  since_start passes =
      ap (λ ps. flat_map tells (after_last starts_it ps)) (zip-push es js e j same)
      ∙ ap (flat_map tells) (last_is starts_it (zip es js) (e, j) passes)

-- ---- what is no start

pub no_start : (u : NodeId) (e : Event) → IsOther e → is_start_of u e ≡ false
no_start u (events.Rel s d p) is = refl
no_start u (events.Krel s d count p) is = refl
no_start u (events.Prio s d prio expiry paths p) is = refl
no_start u (events.Take d s) is = refl
no_start u (events.KTake d s) is = refl
no_start u (events.TakePrio d) is = refl
no_start u (events.Tick v now) is = refl
no_start u (events.Weight a b k) is = refl
no_start u (events.Poll a b) is = refl
no_start u (events.Pass a b k) is = refl
no_start u (events.Flip a b k back bit) is = refl
no_start u (events.Inject a b bytes) is = refl
no_start u (events.Craft c v key object) is = refl
no_start u (events.CraftStatus c v s d base have) is = refl
no_start u (events.Publish u' weights) is = refl
no_start u (events.CraftDocument c' v' key' version weights) is = refl
no_start u (events.Start v) is = absurd is
no_start u (events.Stop v) is = absurd is

-- ---- where a node moves

-- what it tells is told of it alone
module _ (arts : Arts) (x : Setting) (es : List Event) (js : List Entry) (w new : World) (e : Event) (j : Entry) (m : Move arts x w e j new)
    (same : length es ≡ length js) where
  told_now : (u : NodeId) → told_at u (λ y. y ∷ []) (e, j) ≡ cond ((acting e).0 == u.0) m.output.effects []
  told_now u =
      here_is u (λ y. y ∷ []) e j m.output.effects m.journal.effects
      ∙ ap (λ t. cond ((acting e).0 == u.0) t []) (as_they_are m.output.effects)

  pub moved_all : (u : NodeId)
      → effects_at (es ++ e ∷ []) (js ++ j ∷ []) u ≡ effects_at es js u ++ cond ((acting e).0 == u.0) m.output.effects []
  moved_all u = all_more es js e j same u ∙ ap (λ t. effects_at es js u ++ t) (told_now u)

  pub moved_since : (u : NodeId)
      → effects_since (es ++ e ∷ []) (js ++ j ∷ []) u ≡ effects_since es js u ++ cond ((acting e).0 == u.0) m.output.effects []
  moved_since u =
      since_more es js e j same u (no_start u e (moves_other arts x w m.node e m.input m.reaches)) ∙ ap (λ t. effects_since es js u ++ t) (told_now u)

-- ---- without epochs

no_epoch_start : (x : Setting) (es : List Event) (e : Event) (u : NodeId) → x.epochs ≡ false → InRange x es e → is_start_of u e ≡ false
no_epoch_start x es e u off range = go (kind_of e)
  where
    go : Kind e → is_start_of u e ≡ false
    go (Begins v is) =
        let may : may_act x.epochs es (events.Start v) ≡ true = subst (λ (y : Event). may_act x.epochs es y ≡ true) is range.may in
        absurd (let wrong : false ≡ true = sym off ∙ (both x.epochs (not (is_started es v.0)) may).0 in cc)
    go (Ends v is) = ap (is_start_of u) is
    go (Other other) = no_start u e other

pub since_is_all : (arts : Arts) (x : Setting) (es : List Event) (js : List Entry) (w : World) → x.epochs ≡ false → Clean arts x es js w → (u : NodeId)
    → effects_since es js u ≡ effects_at es js u
since_is_all arts x es js w off Starts u = refl
since_is_all arts x es js w off (Turned {es = es'} {js = js'} {old = old} {e = e} {j = j} run range turn unforged) u =
    let same = even arts x es' js' old run in
    since_more es' js' e j same u (no_epoch_start x es' e u off range)
    ∙ ap (λ (t : List Effect). t ++ told_at u (λ y. y ∷ []) (e, j)) (since_is_all arts x es' js' old off run u)
    ∙ sym (all_more es' js' e j same u)
