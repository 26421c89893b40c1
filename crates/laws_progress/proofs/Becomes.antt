-- What one event makes of each node that runs after it: it stays as it was, it makes a step, or it has just started.
use Rattle.std.proofs.Common.{◌≡◌, ◌⊎◌, ℕ, ◌==◌, true, false, List, [], ◌∷◌, ◌++◌, Some, None, refl, sym, ap, subst, ◌∙◌, inl, inr}
use Rattle.std.specs.List.{list_any}
use Rattle.std.proofs.lemmas.Bool.{cases_Bool, eqb-false, eqb-true, ne_eqb}
use Rattle.std.proofs.lemmas.List.Folds.{list_any-append}
use Rattle.sp_base.specs.declared.id.NodeId.{NodeId}
use Rattle.sp_rules.specs.Arts.{Arts}
use Rattle.sp_rules.specs.Node.{NodeState, extended}
use Rattle.sp_rules.specs.Parts.{Fixed}
use Rattle.sp_runs.specs.Forgery.{forged_document, forged_object, has_forged_tag}
use Rattle.sp_runs.specs.Inputs.{acting}
use Rattle.sp_runs.specs.Lives.{IsOther, IsStart, comes_to_nobody, is_missing, next_start, ready}
use Rattle.sp_runs.specs.Runs.{Clean, InRange, IsCraftOf, Lives, Move, Moves, Stays, Turn, forged_in}
use Rattle.sp_runs.specs.Settings.{Setting, SettingFits, fixed_at, node_at_start}
use Rattle.sp_runs.specs.Worlds.{World, is_me, is_running, node_in, without_node}
use Rattle.sp_journal.specs.declared.entry.Entry.{Entry}
use Rattle.sp_schedule_events.specs.declared.event.Event.{Event}
use Rattle.sp_schedule_events.specs.declared.event.Event.TheVariants as events
use Rattle.laws_runs.specs.KeyFiles.{KeysStand}
use Rattle.laws_runs.specs.Premises.{Carries}
use Rattle.laws_runs.proofs.Goods.{unforged_both}
use Rattle.laws_runs.proofs.KeyFiles.{key_files_stand, ready_once, started_before}
use Rattle.laws_runs.proofs.LifeCases.{Exhausts, LifeCase, Nobody, Starts_now, Stops, life_case}
use Rattle.laws_runs.proofs.Lives.{step_stays}
use Rattle.laws_runs.proofs.Ready.{As_was, Extended, Readied, ready_any, was_there}
use Rattle.laws_runs.proofs.Running.{found_there, more_found, there_found, with_any, without_left}
use Rattle.laws_runs.proofs.Signed.{signs_there}
use Rattle.laws_runs.proofs.Tables.{node_put}
use Rattle.laws_progress.specs.Calm.{is_life_of}

-- the event makes no node move: its crafting signer is spent, there is no such frame, or it starts or stops a node
abbrev pub MovesNobody : World → Event → Type 0
MovesNobody w e = ((key : NodeId) × IsCraftOf key e) ⊎ (is_missing w e ≡ true) ⊎ (IsOther e → ⊥)

pub data Becomes (arts : Arts) (x : Setting) (old : World) (e : Event) (j : Entry) (new : World) (u : NodeId) (n : NodeState) : Type 0 where
  -- as it was, but for indexes that it reserved
  Remains : (b : NodeState) → node_in old.nodes u ≡ Some b → Readied x old b n → (acting e ≡ u → ⊥) ⊎ MovesNobody old e → Becomes arts x old e j new u n
  -- a step of it, after it reserved indexes where it is short of them
  Acts : acting e ≡ u → (b : NodeState) → node_in old.nodes u ≡ Some b → (m : Move arts x (ready x old e) e j new) → Readied x old b m.node → n ≡ m.after
      → has_forged_tag arts x (ready x old e) m.node m.input ≡ false → Becomes arts x old e j new u n
  Begins : x.epochs ≡ true → e ≡ events.Start u → IsStart arts x old u j new → n ≡ node_at_start arts x u (next_start x old u)
      → list_any (is_me u) old.nodes ≡ false → Becomes arts x old e j new u n

-- what doesn't ask for the bound of its indexes holds where it reserved more
pub readied_keeps : (x : Setting) (w : World) (b n : NodeState) (P : NodeState → Type 0) → ((upto : ℕ) → P b → P (extended b upto)) → Readied x w b n → P b
    → P n
readied_keeps x w b n P more (As_was same) h = subst P (sym same) h
readied_keeps x w b n P more (Extended on short same) h = subst P (sym same) (more _ h)

-- who it is, as it starts
pub start_fixed : (arts : Arts) (x : Setting) (u : NodeId) (w : World) → x.epochs ≡ true
    → (node_at_start arts x u (next_start x w u)).fixed ≡ fixed_at x u (next_start x w u).boot
start_fixed arts x u w on = rw on refl

module _ (arts : Arts) (x : Setting) (es : List Event) (js : List Entry) (old : World) (e : Event) (j : Entry) (new : World) (fits : SettingFits arts x)
    (reads : Carries x.topology.format arts) (run : Clean arts x es js old) (range : InRange x es e) where
  keys : KeysStand x es old
  keys = key_files_stand arts x es js old fits run

  stays_so : (u : NodeId) (n : NodeState) → node_in old.nodes u ≡ Some n → (acting e ≡ u → ⊥) ⊎ MovesNobody old e → Becomes arts x old e j new u n
  stays_so u n at idle = Remains n at (As_was refl) idle

  moved : (m : Move arts x (ready x old e) e j new) → has_forged_tag arts x (ready x old e) m.node m.input ≡ false → (u : NodeId) (n : NodeState)
      → node_in new.nodes u ≡ Some n → Becomes arts x old e j new u n
  moved m unforged u n at =
      let there = signs_there arts x es js old e fits reads run in
      let me : m.after.fixed.me ≡ acting e =
      ap (λ (f : Fixed). f.me) ((step_stays arts m.node m.input m.output m.after m.step).fixed ∙ (there.nodes (acting e) m.node m.is_there).fixed) in
      elim (node_put u (acting e) m.after n (ready x old e).nodes me (ap (λ (z : World). node_in z.nodes u) (sym m.world) ∙ at)) [
        | inl here ↦
            let was = was_there x old e (acting e) m.node m.is_there in
            Acts (sym here.0) was.before (ap (node_in old.nodes) here.0 ∙ was.is_there) m was.readied here.1 unforged
        | inr other ↦
            let was = was_there x old e u n other.1 in
            Remains was.before was.is_there was.readied (inl (λ acts. other.0 (sym acts)))
      ]

  -- whom nothing comes to, where it runs
  idle_at : (u : NodeId) (n : NodeState) → node_in old.nodes u ≡ Some n → comes_to_nobody old e ≡ true → (acting e ≡ u → ⊥) ⊎ MovesNobody old e
  idle_at u n at nobody = elim (cases_Bool (is_missing old e)) [
    | inl t ↦ inr (inr (inl t))
    | inr t ↦ inl (λ acts.
        let runs : is_running old.nodes (acting e) ≡ true = ap (is_running old.nodes) acts ∙ found_there u n old.nodes at in
        let f : false ≡ true = rw (runs, t) at nobody in cc)
  ]

  life_event : (v : NodeId) (u : NodeId) → e ≡ events.Start v → (acting e ≡ u → ⊥) ⊎ MovesNobody old e
  life_event v u is = inr (inr (inr (λ other. subst IsOther is other)))

  lived : x.epochs ≡ true → LifeCase arts x old e j new → (u : NodeId) (n : NodeState) → node_in new.nodes u ≡ Some n → Becomes arts x old e j new u n
  lived on (Starts_now v is start) u n at =
      let first = node_at_start arts x v (next_start x old v) in
      elim (more_found u n first old.nodes (subst (λ (w : World). node_in w.nodes u ≡ Some n) start.world at)) [
        | inl was ↦ stays_so u n was (life_event v u is)
        | inr it ↦
            let mine : v ≡ u = sym (it.0 ∙ ap (λ (f : Fixed). f.me) (start_fixed arts x v old on)) in
            let not_yet = started_before x es v on (subst (λ (y : Event). InRange x es y) is range).may in
            let none : list_any (is_me v) old.nodes ≡ false = elim (cases_Bool (list_any (is_me v) old.nodes)) [
              | inl runs ↦
                  let b = there_found v old.nodes runs in
                  absurd (let wrong : true ≡ false = sym ((keys.files on).nodes v b.0 b.1).started ∙ not_yet in cc)
              | inr t ↦ t
            ] in
            subst (λ (w : NodeId). e ≡ events.Start w → IsStart arts x old w j new → n ≡ node_at_start arts x w (next_start x old w)
            → list_any (is_me w) old.nodes ≡ false
            → Becomes arts x old e j new u n) (sym mine) (λ a b c d. Begins on a b c d) is start it.1 none
      ]
  lived on (Exhausts v is none) u n at = stays_so u n (subst (λ (w : World). node_in w.nodes u ≡ Some n) none.world at) (life_event v u is)
  lived on (Stops v is stop) u n at =
      let w = ready x old (events.Stop v) in
      let was = was_there x old (events.Stop v) u n
      (without_left u v n w.nodes (subst (λ (y : World). node_in y.nodes u ≡ Some n) stop.world at) (ready_once x es old (events.Stop v) on keys)) in
      Remains was.before was.is_there was.readied (inr (inr (inr (λ other. subst IsOther is other))))
  lived on (Nobody other down) u n at =
      let was : node_in old.nodes u ≡ Some n = subst (λ (w : World). node_in w.nodes u ≡ Some n) down.world at in
      stays_so u n was (idle_at u n was down.nobody)

  pub becomes : (turn : Turn arts x old e j new) → forged_in arts x es js old e j new turn ≡ None → (u : NodeId) (n : NodeState) → node_in new.nodes u ≡ Some n
      → Becomes arts x old e j new u n
  becomes (Moves m) unforged u n at =
      moved m (unforged_both (has_forged_tag arts x (ready x old e) m.node m.input) (forged_object arts x es js m.output.answered)
      (forged_document arts es m.output.adopted) unforged).0 u n at
  becomes (Stays s) unforged u n at = stays_so u n (subst (λ (w : World). node_in w.nodes u ≡ Some n) s.world at) (inr (inl (s.key, s.is_craft)))
  becomes (Lives on life) unforged u n at = lived on (life_case arts x old e j new life) u n at

-- ---- a node runs on through each event that doesn't start or stop it

others_run : (u v : NodeId) (nodes : List NodeState) → (v.0 ≡ u.0 → ⊥) → list_any (is_me u) nodes ≡ true → list_any (is_me u) (without_node nodes v) ≡ true
others_run u v [] other runs = runs
others_run u v (m ∷ nodes) other runs = elim (cases_Bool (is_me v m)) [
  | inl gone ↦
      let off : is_me u m ≡ false = ne_eqb _ _ (λ same. other (sym (eqb-true _ _ gone) ∙ same)) in
      rw gone (let rest : list_any (is_me u) nodes ≡ true = rw off at runs in rest)
  | inr stays ↦ elim (cases_Bool (is_me u m)) [
    | inl here ↦ rw (stays, here) refl
    | inr there ↦ rw (stays, there) (others_run u v nodes other (rw there at runs))
  ]
]

more_run : (u : NodeId) (nodes : List NodeState) (n : NodeState) → list_any (is_me u) nodes ≡ true → list_any (is_me u) (nodes ++ n ∷ []) ≡ true
more_run u nodes n runs = list_any-append (is_me u) nodes (n ∷ []) ∙ rw runs refl

pub runs_on : (arts : Arts) (x : Setting) (es : List Event) (js : List Entry) (old : World) (e : Event) (j : Entry) (new : World) → SettingFits arts x
    → Carries x.topology.format arts → Clean arts x es js old → Turn arts x old e j new → (u : NodeId) → is_life_of u e ≡ false
    → (b : NodeState) → node_in old.nodes u ≡ Some b → (n : NodeState) × (node_in new.nodes u ≡ Some n)
runs_on arts x es js old e j new fits reads run turn u calm b at = there_found u new.nodes (go turn)
  where
    before : list_any (is_me u) old.nodes ≡ true
    before = found_there u b old.nodes at

    life : LifeCase arts x old e j new → list_any (is_me u) new.nodes ≡ true
    life (Starts_now v is start) =
        ap (λ (w : World). list_any (is_me u) w.nodes) start.world ∙ more_run u old.nodes (node_at_start arts x v (next_start x old v)) before
    life (Exhausts v is none) = ap (λ (w : World). list_any (is_me u) w.nodes) none.world ∙ before
    life (Stops v is stop) =
        let apart : (v.0 == u.0) ≡ false = ap (is_life_of u) (sym is) ∙ calm in
        ap (λ (w : World). list_any (is_me u) w.nodes) stop.world
        ∙ others_run u v (ready x old (events.Stop v)).nodes (eqb-false _ _ apart) (ready_any x old (events.Stop v) u ∙ before)
    life (Nobody other down) = ap (λ (w : World). list_any (is_me u) w.nodes) down.world ∙ before

    go : Turn arts x old e j new → list_any (is_me u) new.nodes ≡ true
    go (Moves m) =
        let there = signs_there arts x es js old e fits reads run in
        let me : m.after.fixed.me ≡ acting e =
        ap (λ (f : Fixed). f.me) ((step_stays arts m.node m.input m.output m.after m.step).fixed ∙ (there.nodes (acting e) m.node m.is_there).fixed) in
        ap (λ (w : World). list_any (is_me u) w.nodes) m.world ∙ with_any u (acting e) m.after (ready x old e).nodes me ∙ ready_any x old e u ∙ before
    go (Stays s) = ap (λ (w : World). list_any (is_me u) w.nodes) s.world ∙ before
    go (Lives on l) = life (life_case arts x old e j new l)
