-- What one event more adds to what is told of boots; and that without epochs all that is told is told under the boots 0.
use Rattle.std.proofs.Common.{◌≡◌, ℕ, ◌==◌, true, false, List, [], ◌∷◌, ◌++◌, Some, None, refl, sym, ap, ◌∙◌, inl, inr}
use Rattle.std.specs.Prelude.{◌⊎◌}
use Rattle.std.specs.List.{flat_map}
use Rattle.std.proofs.lemmas.Bool.{cases_Bool, cases_eq, eq-eqb, eqb-true}
use Rattle.std.proofs.lemmas.List.{append-nil}
use Rattle.std.proofs.lemmas.List.Concat.{flat_map-append}
use Rattle.sp_base.specs.declared.id.NodeId.{NodeId}
use Rattle.sp_rules.specs.Arts.{Arts}
use Rattle.sp_rules.specs.Lives.{held_boot}
use Rattle.sp_rules.specs.Node.{NodeState}
use Rattle.sp_rules.specs.Parts.{Parts}
use Rattle.sp_runs.specs.Inputs.{acting}
use Rattle.sp_runs.specs.Runs.{Clean, Lives, Moves, Spends, Starts, Stays, Turn, Turned}
use Rattle.sp_runs.specs.Settings.{Setting, StaysUp}
use Rattle.sp_runs.specs.Told.{told}
use Rattle.sp_runs.specs.Worlds.{World}
use Rattle.sp_journal.specs.declared.entry.Entry.{Entry}
use Rattle.sp_schedule_events.specs.declared.event.Event.{Event}
use Rattle.laws_runs.specs.Past.{Happened, holds, mover_in, past, told_under}
use Rattle.laws_runs.specs.Premises.{Carries}
use Rattle.laws_runs.proofs.HeldBoots.{held_boots_are_born}
use Rattle.laws_runs.proofs.Lists.{told_more}
use Rattle.laws_runs.proofs.Ready.{readied_parts, was_there}
use Rattle.laws_runs.proofs.SignedEvents.{even}

-- ---- one event more

-- what the past tells, with one more event
pub past_more : {X : Type 0} (f : Happened → List X) (before : List Happened) (h : Happened) → flat_map f (before ++ h ∷ []) ≡ flat_map f before ++ f h
past_more f before h = flat_map-append f before (h ∷ []) ∙ ap (λ t. flat_map f before ++ t) (append-nil (f h))

-- ---- boots

pub holds_own : (n : NodeState) (s d : NodeId) → holds n s (held_boot n.parts.lives s) d (held_boot n.parts.lives d) ≡ true
holds_own n s d =
    let one = eq-eqb (held_boot n.parts.lives s) (held_boot n.parts.lives s) refl in
    let two = eq-eqb (held_boot n.parts.lives d) (held_boot n.parts.lives d) refl in
    rw (one, two) refl

pub holds_no_other : (n : NodeState) (s d : NodeId) (a b : ℕ) → ((a ≡ held_boot n.parts.lives s) × (b ≡ held_boot n.parts.lives d) → ⊥)
    → holds n s a d b ≡ false
holds_no_other n s d a b never = elim (cases_Bool (held_boot n.parts.lives s == a)) [
  | inl t ↦ elim (cases_Bool (held_boot n.parts.lives d == b)) [
    | inl u ↦ absurd (never (sym (eqb-true _ _ t), sym (eqb-true _ _ u)))
    | inr u ↦ rw (t, u) refl
  ]
  | inr t ↦ rw t refl
]

pub same_boots : (a b c d : ℕ) → ((a ≡ c) × (b ≡ d)) ⊎ ((a ≡ c) × (b ≡ d) → ⊥)
same_boots a b c d = elim (cases_eq a c) [
  | inl e ↦ elim (cases_eq b d) [
    | inl f ↦ inl (e, f)
    | inr other ↦ inr (λ both. other both.1)
  ]
  | inr other ↦ inr (λ both. other both.0)
]

-- ---- without epochs

-- of each boot a node holds 0
abbrev pub HoldsNone : NodeState → Type 0
HoldsNone n = (v : NodeId) → held_boot n.parts.lives v ≡ 0

-- what a node without boots tells, it tells under 0
pub told_plain : {X : Type 0} (s d : NodeId) (tells : List X) (n : NodeState) → HoldsNone n → told_under s 0 d 0 tells (Some n) ≡ tells
told_plain s d tells n none = let one = none s in let two = none d in rw (one, two) refl

-- so what the past tells is what events and journal tell
pub past_is_plain : {X : Type 0} (f : Happened → List X) (tells : Event × Entry → List X)
    → ((e : Event) (j : Entry) (n : NodeState) → HoldsNone n → f (record { event = e; entry = j; mover = Some n }) ≡ tells (e, j))
    → ((x : Setting) (old new : World) (e : Event) (j : Entry) → Spends x old e j new → f (record { event = e; entry = j; mover = None }) ≡ tells (e, j))
    → (arts : Arts) (x : Setting) (es : List Event) (js : List Entry) (w : World) → StaysUp arts x → Carries x.topology.format arts
    → (run : Clean arts x es js w)
    → flat_map f (past arts x es js w run) ≡ told tells es js
past_is_plain f tells moves rests arts x es js w fits reads Starts = refl
past_is_plain f tells moves rests arts x es js w fits reads (Turned {es = es'} {js = js'} {old = old} {e = e} {j = j} run range turn unforged) =
    past_more f (past arts x es' js' old run) (record { event = e; entry = j; mover = mover_in arts x old e j w turn })
    ∙ ap (λ t. t ++ f (record { event = e; entry = j; mover = mover_in arts x old e j w turn }))
    (past_is_plain f tells moves rests arts x es' js' old fits reads run)
    ∙ ap (λ t. told tells es' js' ++ t) (go turn)
    ∙ sym (told_more tells es' js' e j (even arts x es' js' old run))
  where
    go : (t : Turn arts x old e j w) → f (record { event = e; entry = j; mover = mover_in arts x old e j w t }) ≡ tells (e, j)
    go (Moves m) = moves e j m.node (λ v.
        let was = was_there x old e (acting e) m.node m.is_there in
        ap (λ (p : Parts). held_boot p.lives v) (readied_parts x old was.before m.node was.readied).0
        ∙ (held_boots_are_born arts x es' js' old fits.fits reads run).none fits.plain (acting e) v was.before was.is_there)
    go (Stays s) = rests x old w e j s
    go (Lives on life) = absurd (let wrong : false ≡ true = sym fits.plain ∙ on in cc)
