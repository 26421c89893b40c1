-- Over each run, with or without epochs, the one-time indexes of a node rise over all its lives, and so do its boots. A step signs with the next index, and a
-- start takes the indexes from the bound of the key file on.
use Rattle.std.proofs.Common.{◌≡◌, ◌<◌, ◌≤◌, ℕ, ◌+◌, ◌-◌, ◌==◌, Bool, true, false, cond, List, [], ◌∷◌, ◌++◌, Some, None, refl, sym, ap, subst, ◌∙◌, inl, inr}
use Rattle.std.proofs.Common.{arith, length}
use Rattle.std.specs.Prelude.{◌⊎◌}
use Rattle.std.specs.List.{AllPairs, flat_map, list_any}
use Rattle.std.proofs.lemmas.Bool.{eq-eqb, eqb-true}
use Rattle.std.proofs.lemmas.List.{append-nil}
use Rattle.std.proofs.lemmas.List.Elements.{All-nil}
use Rattle.sp_base.specs.declared.id.NodeId.{NodeId}
use Rattle.sp_epoch.specs.Numbers.{after_start, next_bound, numbers_at, with_numbers}
use Rattle.sp_epoch.specs.declared.started.Started.{Started}
use Rattle.sp_epoch.proofs.NumberLemmas.{at_own}
use Rattle.sp_keystate.specs.declared.numbers.Numbers.{Numbers}
use Rattle.sp_msg.specs.declared.effect.Effect.TheVariants.{Signed}
use Rattle.sp_rules.specs.Arts.{Arts}
use Rattle.sp_rules.specs.Node.{NodeState, announced, booted, own_epoch}
use Rattle.sp_runs.specs.Inputs.{acting}
use Rattle.sp_runs.specs.Lives.{IsStart, next_start, ready}
use Rattle.sp_runs.specs.Runs.{Clean, InRange, Lives, Move, Moves, Starts, Stays, Turn, Turned}
use Rattle.sp_runs.specs.Settings.{Setting, SettingFits, fixed_at, link_keys, node_at_start, signer_from}
use Rattle.sp_runs.specs.Told.{signed_by, told_at}
use Rattle.sp_runs.specs.Worlds.{World, is_me, node_in, with_node}
use Rattle.sp_journal.specs.declared.entry.Entry.{Entry}
use Rattle.sp_journal.specs.declared.entry.Reply.{Reply}
use Rattle.sp_schedule_events.specs.declared.event.Event.{Event}
use Rattle.sp_schedule_events.specs.declared.event.Event.TheVariants as events
use Rattle.laws_node.specs.Shapes.{Shape}
use Rattle.laws_node.proofs.Shapes.{shapes_stay}
use Rattle.laws_runs.specs.KeyFiles.{KeysStand}
use Rattle.laws_runs.specs.LifeKeys.{KeysRise, boot_in, boots, index_at, indexed, signatures}
use Rattle.laws_runs.specs.Past.{Happened, mover_in, past}
use Rattle.laws_runs.specs.Premises.{Carries}
use Rattle.laws_runs.proofs.HeldBoots.{boots_rise}
use Rattle.laws_runs.proofs.KeyFiles.{has_file, key_files_stand, ready_once, started_before}
use Rattle.laws_runs.proofs.LifeCases.{Exhausts, LifeCase, Nobody, Starts_now, Stops, life_case}
use Rattle.laws_runs.proofs.Running.{found_there, more_found, there_found, with_any, without_left}
use Rattle.laws_runs.proofs.Signed.{signs}
use Rattle.laws_runs.proofs.Started.{craft_other, moves_other}
use Rattle.laws_runs.proofs.StepIndexes.{Uses, step_uses}
use Rattle.laws_runs.proofs.Tables.{node_is, node_put, same_node}
use Rattle.laws_runs.proofs.KeyPasts.{PastHolds, UpTo, as_before, below_more, boot_one, in_turn, keys_go_on, more_bound, no_boot, past_goes_on, past_holds}
use Rattle.laws_runs.proofs.KeyPasts.{ready_goes_on, sign_all, sign_one, told_none, up_to_more}

-- ---- a node moves

-- the node that acts has its state after it
acted_there : (arts : Arts) (x : Setting) (v new : World) (e : Event) (j : Entry) (m : Move arts x v e j new) → m.after.fixed.me ≡ acting e
    → node_in new.nodes (acting e) ≡ Some m.after
acted_there arts x v new e j m me =
    let runs : list_any (is_me (acting e)) (with_node v.nodes (acting e) m.after) ≡ true =
    with_any (acting e) (acting e) m.after v.nodes me ∙ found_there (acting e) m.node v.nodes m.is_there in
    let found = there_found (acting e) (with_node v.nodes (acting e) m.after) runs in
    subst (λ (w : World). node_in w.nodes (acting e) ≡ Some m.after) (sym m.world)
    (elim (node_put (acting e) (acting e) m.after found.0 v.nodes me found.1) [
      | inl it ↦ found.1 ∙ ap Some it.1
      | inr other ↦ absurd (other.0 refl)
    ])

keys_moved : (arts : Arts) (x : Setting) (v new : World) (e : Event) (j : Entry) (m : Move arts x v e j new) (u : NodeId) (before : List Happened)
    → (x.epochs ≡ true → (n : NodeState) → node_in new.nodes u ≡ Some n → n.signer.index ≤ (numbers_at new.keys u).bound)
    → PastHolds x u before v → PastHolds x u (before ++ record { event = e; entry = j; mover = Some m.node } ∷ []) new
keys_moved arts x v new e j m u before low h = go ((acting e).0 == u.0) refl
  where
    me : m.after.fixed.me ≡ acting e
    me = ap (λ (s : Shape). s.fixed.me) (shapes_stay arts m.node m.input m.output m.after m.step) ∙ node_is v.nodes (acting e) m.node m.is_there

    keys : new.keys ≡ v.keys
    keys = ap (λ (w : World). w.keys) m.world

    starts : boot_in u e j.reply ≡ []
    starts = no_boot u e j.reply (moves_other arts x v m.node e m.input m.reaches)

    found : (n : NodeState) → node_in new.nodes u ≡ Some n → ((u ≡ acting e) × (n ≡ m.after)) ⊎ ((u ≡ acting e → ⊥) × (node_in v.nodes u ≡ Some n))
    found n at = node_put u (acting e) m.after n v.nodes me (subst (λ (w : World). node_in w.nodes u ≡ Some n) m.world at)

    -- at u itself
    mine : acting e ≡ u → (told : List (List ℕ)) → told_at u signed_by (e, j) ≡ told → told ≡ flat_map signed_by m.output.effects
        → Uses m.node m.output.effects m.after → PastHolds x u (before ++ record { event = e; entry = j; mover = Some m.node } ∷ []) new
    mine is told tells signed uses =
        let messages = flat_map signed_by m.output.effects in
        let next = uses.index in
        let there : node_in v.nodes u ≡ Some m.node = ap (node_in v.nodes) (sym is) ∙ m.is_there in
        let more = sign_all m.node.signer.index messages (signatures before u) h.rise (h.index m.node there) in
        let ss = signatures before u ++ indexed m.node.signer.index messages in
        let upto = m.node.signer.index + length messages in
        let after : node_in new.nodes u ≡ Some m.after = ap (node_in new.nodes) (sym is) ∙ acted_there arts x v new e j m me in
        past_holds x u before (record { event = e; entry = j; mover = Some m.node }) new (indexed m.node.signer.index messages) []
        (ap (indexed m.node.signer.index) (tells ∙ signed)) starts
        (record {
          rise = more.0;
          index = λ n at. elim (found n at) [
            | inl it ↦
                let index = ap (λ (k : NodeState). k.signer.index) it.1 in
                below_more upto n.signer.index ss (omega (arith, index, next)) more.1
            | inr other ↦ absurd (other.0 (sym is))
          ];
          bound = λ on.
              let most = low on m.after after in
              below_more upto (numbers_at new.keys u).bound ss (omega (arith, most, next)) more.1;
          boots = subst (λ (t : List ℕ). AllPairs (λ one two. one < two) t) (sym (append-nil (boots before u))) h.boots;
          boot = subst (λ (t : List ℕ). UpTo (numbers_at new.keys u).boot t) (sym (append-nil (boots before u)))
              (up_to_more (numbers_at v.keys u).boot (numbers_at new.keys u).boot (boots before u)
              (let k = ap (λ (k : List Numbers). (numbers_at k u).boot) keys in omega (arith, k)) h.boot);
        })

    go : (t : Bool) → ((acting e).0 == u.0) ≡ t → PastHolds x u (before ++ record { event = e; entry = j; mover = Some m.node } ∷ []) new
    go true here =
        mine (same_node (acting e) u (eqb-true _ _ here)) (flat_map signed_by j.effects) (rw here refl) (ap (flat_map signed_by) m.journal.effects)
        (step_uses arts m.node m.input m.output m.after m.step)
    go false here =
        past_goes_on x u before e j (Some m.node) v new (rw here refl) starts
        (as_before u v new (λ n at. elim (found n at) [
          | inl it ↦ absurd (let wrong : true ≡ false = sym (eq-eqb (acting e).0 u.0 (sym (ap (λ (w : NodeId). w.0) it.0))) ∙ here in cc)
          | inr other ↦ other.1
        ]) keys) h

-- ---- a node starts

keys_started : (arts : Arts) (x : Setting) (es : List Event) (old new : World) (a : NodeId) (j : Entry) → SettingFits arts x → x.epochs ≡ true
    → KeysStand x es old → InRange x es (events.Start a) → IsStart arts x old a j new → (u : NodeId) (before : List Happened)
    → PastHolds x u before old → PastHolds x u (before ++ record { event = events.Start a; entry = j; mover = None } ∷ []) new
keys_started arts x es old new a j fits on keys range it u before h = go (a.0 == u.0) refl
  where
    s : Started
    s = next_start x old a

    begun : NodeState
    begun = announced arts (booted (fixed_at x a s.boot) (signer_from x a s.index s.bound) (link_keys x a) x.buffer x.store)

    begins : node_at_start arts x a s ≡ begun
    begins = rw on refl

    found : (n : NodeState) → node_in new.nodes u ≡ Some n → (node_in old.nodes u ≡ Some n) ⊎ ((u ≡ a) × (n ≡ begun))
    found n at = elim (more_found u n (node_at_start arts x a s) old.nodes (subst (λ (y : World). node_in y.nodes u ≡ Some n) it.world at)) [
      | inl was ↦ inl was
      | inr is ↦ inr (is.0 ∙ ap (λ (y : NodeState). y.fixed.me) begins, is.1 ∙ begins)
    ]

    file : new.keys ≡ with_numbers old.keys a (after_start x.total (numbers_at old.keys a))
    file = ap (λ (w : World). w.keys) it.world

    -- it didn't run
    stopped : (n : NodeState) → node_in old.nodes a ≡ Some n → ⊥
    stopped n at =
        let was = ((keys.files on).nodes a n at).started in
        let wrong : true ≡ false = sym was ∙ started_before x es a on range.may in
        cc

    message : List ℕ
    message = arts.spell (own_epoch (fixed_at x a s.boot))

    effects : j.effects ≡ Signed message ∷ []
    effects = it.effects ∙ rw on refl

    mine : a ≡ u → (told : List (List ℕ)) → told_at u signed_by (events.Start a, j) ≡ told → told ≡ message ∷ []
        → PastHolds x u (before ++ record { event = events.Start a; entry = j; mover = None } ∷ []) new
    mine is told tells signed =
        let own : numbers_at new.keys u ≡ after_start x.total (numbers_at old.keys a) =
        ap (λ (k : List Numbers). numbers_at k u) file
        ∙ at_own old.keys a u (after_start x.total (numbers_at old.keys a)) (has_file arts x es old a fits range.fields.0 keys)
        (sym (ap (λ (w : NodeId). w.0) is)) in
        let was : numbers_at old.keys u ≡ numbers_at old.keys a = ap (numbers_at old.keys) (sym is) in
        let bound : (numbers_at old.keys u).bound ≡ s.index = ap (λ (k : Numbers). k.bound) was in
        let boot : (numbers_at old.keys u).boot + 1 ≡ s.boot = ap (λ (k : Numbers). k.boot + 1) was in
        let more = sign_one s.index message (signatures before u) h.rise
        (below_more (numbers_at old.keys u).bound s.index (signatures before u) (omega (arith, bound)) (h.bound on)) in
        let later = boot_one (numbers_at old.keys a).boot (boots before u) h.boots
        (subst (λ (k : Numbers). UpTo k.boot (boots before u)) was h.boot) in
        let ss = signatures before u ++ (s.index, message) ∷ [] in
        past_holds x u before (record { event = events.Start a; entry = j; mover = None }) new ((s.index, message) ∷ []) (s.boot ∷ [])
        (ap (λ (r : Reply). indexed (index_at r None) (told_at u signed_by (events.Start a, j))) it.reply ∙ ap (indexed s.index) (tells ∙ signed))
        (ap (boot_in u (events.Start a)) it.reply
        ∙ ap (λ (t : Bool). cond t (s.boot ∷ []) []) (eq-eqb a.0 u.0 (ap (λ (w : NodeId). w.0) is)))
        (record {
          rise = more.0;
          index = λ n at. elim (found n at) [
            | inl there ↦ absurd (stopped n (ap (node_in old.nodes) is ∙ there))
            | inr new ↦
                let index : n.signer.index ≡ s.index + 1 = ap (λ (k : NodeState). k.signer.index) new.1 in
                below_more (s.index + 1) n.signer.index ss (omega (arith, index)) more.1
          ];
          bound = λ also.
              let left = it.left in
              let most : (numbers_at new.keys u).bound ≡ next_bound x.total (numbers_at old.keys a) = ap (λ (k : Numbers). k.bound) own in
              below_more (s.index + 1) (numbers_at new.keys u).bound ss (omega (arith, left, most)) more.1;
          boots = later.0;
          boot =
              let taken : (numbers_at new.keys u).boot ≡ s.boot = ap (λ (k : Numbers). k.boot) own in
              up_to_more s.boot (numbers_at new.keys u).boot (boots before u ++ s.boot ∷ []) (omega (arith, taken)) later.1;
        })

    go : (t : Bool) → (a.0 == u.0) ≡ t → PastHolds x u (before ++ record { event = events.Start a; entry = j; mover = None } ∷ []) new
    go true here =
        mine (same_node a u (eqb-true _ _ here)) (flat_map signed_by j.effects) (rw here refl) (ap (flat_map signed_by) effects)
    go false here =
        past_goes_on x u before (events.Start a) j None old new (rw here refl)
        (ap (boot_in u (events.Start a)) it.reply ∙ ap (λ (t : Bool). cond t (s.boot ∷ []) []) here)
        (record {
          node = λ n at. elim (found n at) [
            | inl was ↦ (n, was, omega arith)
            | inr is ↦ absurd (let wrong : true ≡ false = sym (eq-eqb a.0 u.0 (sym (ap (λ (w : NodeId). w.0) is.0))) ∙ here in cc)
          ];
          bound =
              let up = more_bound x es old a u ((numbers_at old.keys a).boot + 1) (after_start x.total (numbers_at old.keys a)).serial keys in
              let k = ap (λ (k : List Numbers). (numbers_at k u).bound) file in
              omega (arith, up, k);
          boot =
              let up = boots_rise old.keys (a.0 - 1) (u.0 - 1) (after_start x.total (numbers_at old.keys a)) (omega arith) in
              let k = ap (λ (k : List Numbers). (numbers_at k u).boot) file in
              omega (arith, up, k);
        }) h

-- ---- one turn

keys_of_life : (arts : Arts) (x : Setting) (es : List Event) (old : World) (e : Event) (j : Entry) (new : World) → SettingFits arts x → x.epochs ≡ true
    → KeysStand x es old → InRange x es e → LifeCase arts x old e j new → (u : NodeId) (before : List Happened)
    → PastHolds x u before old → PastHolds x u (before ++ record { event = e; entry = j; mover = None } ∷ []) new
keys_of_life arts x es old e j new fits on keys range (Starts_now a is it) u before h =
    subst (λ (f : Event). PastHolds x u (before ++ record { event = f; entry = j; mover = None } ∷ []) new) (sym is)
    (keys_started arts x es old new a j fits on keys (subst (InRange x es) is range) it u before h)
keys_of_life arts x es old e j new fits on keys range (Exhausts a is none) u before h =
    past_goes_on x u before e j None old new (told_none u e j (ap (flat_map signed_by) none.effects))
    (ap (λ (f : Event). boot_in u f j.reply) is ∙ ap (boot_in u (events.Start a)) none.reply)
    (as_before u old new (λ n at. subst (λ (w : World). node_in w.nodes u ≡ Some n) none.world at) (ap (λ (w : World). w.keys) none.world)) h
keys_of_life arts x es old e j new fits on keys range (Stops a is stop) u before h =
    let v = ready x old (events.Stop a) in
    past_goes_on x u before e j None old new (told_none u e j (ap (flat_map signed_by) stop.effects)) (ap (λ (f : Event). boot_in u f j.reply) is)
    (in_turn u old v new (ready_goes_on x es old (events.Stop a) u keys)
    (as_before u v new
    (λ n at. without_left u a n v.nodes (subst (λ (w : World). node_in w.nodes u ≡ Some n) stop.world at) (ready_once x es old (events.Stop a) on keys))
    (ap (λ (w : World). w.keys) stop.world))) h
keys_of_life arts x es old e j new fits on keys range (Nobody other down) u before h =
    past_goes_on x u before e j None old new (told_none u e j (ap (flat_map signed_by) down.effects)) (no_boot u e j.reply other)
    (as_before u old new (λ n at. subst (λ (w : World). node_in w.nodes u ≡ Some n) down.world at) (ap (λ (w : World). w.keys) down.world)) h

turn_holds : (arts : Arts) (x : Setting) (es : List Event) (old : World) (e : Event) (j : Entry) (new : World) → SettingFits arts x → KeysStand x es old
    → InRange x es e → (turn : Turn arts x old e j new) → (u : NodeId) (before : List Happened)
    → (x.epochs ≡ true → (n : NodeState) → node_in new.nodes u ≡ Some n → n.signer.index ≤ (numbers_at new.keys u).bound)
    → PastHolds x u before old → PastHolds x u (before ++ record { event = e; entry = j; mover = mover_in arts x old e j new turn } ∷ []) new
turn_holds arts x es old e j new fits keys range (Moves m) u before low h =
    keys_moved arts x (ready x old e) new e j m u before low
    (keys_go_on x u (signatures before u) (boots before u) old (ready x old e) (ready_goes_on x es old e u keys) h)
turn_holds arts x es old e j new fits keys range (Stays s) u before low h =
    past_goes_on x u before e j None old new (told_none u e j (ap (flat_map signed_by) s.effects)) (no_boot u e j.reply (craft_other s.key e s.is_craft))
    (as_before u old new (λ n at. subst (λ (w : World). node_in w.nodes u ≡ Some n) s.world at) (ap (λ (w : World). w.keys) s.world)) h
turn_holds arts x es old e j new fits keys range (Lives on life) u before low h =
    keys_of_life arts x es old e j new fits on keys range (life_case arts x old e j new life) u before h

-- ---- every run

-- a node that runs signs below the bound of its key file
signs_below : (arts : Arts) (x : Setting) (es : List Event) (js : List Entry) (w : World) → SettingFits arts x → Carries x.topology.format arts
    → Clean arts x es js w → x.epochs ≡ true → (u : NodeId) (n : NodeState) → node_in w.nodes u ≡ Some n → n.signer.index ≤ (numbers_at w.keys u).bound
signs_below arts x es js w fits reads run on u n at =
    let low = ((signs arts x es js w fits reads run).nodes u n at).holds.signer.index in
    let bound = (((key_files_stand arts x es js w fits run).files on).nodes u n at).bound in
    omega (arith, low, bound)

keys_hold : (arts : Arts) (x : Setting) (es : List Event) (js : List Entry) (w : World) → SettingFits arts x → Carries x.topology.format arts
    → (run : Clean arts x es js w) → (u : NodeId) → PastHolds x u (past arts x es js w run) w
keys_hold arts x es js w fits reads Starts u = record {
  rise = λ i j d below within. absurd (omega (arith, within));
  index = λ n at. All-nil (λ (s : ℕ × List ℕ). s.0 < n.signer.index);
  bound = λ on k d within. absurd (omega (arith, within));
  boots = λ i j d below within. absurd (omega (arith, within));
  boot = λ k d within. absurd (omega (arith, within));
}
keys_hold arts x es js w fits reads (Turned {es = es'} {js = js'} {old = old} {e = e} {j = j} run range turn unforged) u =
    turn_holds arts x es' old e j w fits (key_files_stand arts x es' js' old fits run) range turn u (past arts x es' js' old run)
    (λ on n at. signs_below arts x es js w fits reads (Turned run range turn unforged) on u n at)
    (keys_hold arts x es' js' old fits reads run u)

pub keys_rise : KeysRise
keys_rise arts x es js w fits reads run u correct =
    let h = keys_hold arts x es js w fits reads run u in
    record { indexes = h.rise; boots = h.boots }
