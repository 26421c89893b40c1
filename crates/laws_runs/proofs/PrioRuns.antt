-- The part on priority messages over a whole run: where nodes start, stop and move; and the laws that it gives.
use Rattle.std.proofs.Common.{◌≡◌, ◌≤◌, ◌+◌, ◌-◌, ℕ, ◌==◌, Bool, true, false, cond, List, [], ◌∷◌, ◌++◌, length, Option, Some, None, refl, sym, ap, subst}
use Rattle.std.proofs.Common.{◌∙◌, inl, inr, arith}
use Rattle.std.specs.Prelude.{◌⊎◌, IsTrue}
use Rattle.std.specs.List.{All, Contains, flat_map}
use Rattle.std.proofs.lemmas.List.{append-nil}
use Rattle.std.proofs.lemmas.List.Elements.{All-nil}
use Rattle.sp_base.specs.declared.id.NodeId.{NodeId}
use Rattle.sp_epoch.specs.Numbers.{after_start, numbers_at}
use Rattle.sp_keystate.specs.declared.numbers.Numbers.{Numbers}
use Rattle.sp_msg.specs.declared.body.Body.TheVariants as bodies
use Rattle.sp_msg.specs.declared.body.Prio.{Prio}
use Rattle.sp_msg.specs.declared.effect.Effect.TheVariants.{Signed}
use Rattle.sp_rules.specs.Arts.{Arts}
use Rattle.sp_rules.specs.Lives.{held_boot}
use Rattle.sp_msg.specs.declared.kept.Kept.{Kept}
use Rattle.sp_rules.specs.Node.{NodeState, announced, booted, own_epoch}
use Rattle.sp_rules.specs.Prio.{window_in}
use Rattle.sp_rules.specs.Window.{is_in, is_seen}
use Rattle.laws_node.specs.Shapes.{Shape}
use Rattle.laws_node.proofs.Spellings.{no_other_is_spelled_so}
use Rattle.sp_runs.specs.Forgery.{forged_document, forged_object, has_forged_tag, is_among}
use Rattle.sp_runs.specs.Inputs.{acting}
use Rattle.sp_runs.specs.Lives.{IsStart, next_start, ready}
use Rattle.sp_runs.specs.Runs.{Clean, InRange, Lives, Moves, Starts, Stays, Turn, Turned, forged_in}
use Rattle.sp_runs.specs.Settings.{Setting, SettingFits, fixed_at, link_keys, node_at_start, signer_from}
use Rattle.sp_runs.specs.Told.{Message, prio_accepted_in, prio_by, prio_delivered, prio_sent, signed, signed_by, told_at}
use Rattle.sp_runs.specs.Worlds.{World, at_start, node_in}
use Rattle.sp_journal.specs.declared.entry.Entry.{Entry}
use Rattle.sp_schedule_events.specs.declared.event.Event.{Event}
use Rattle.sp_schedule_events.specs.declared.event.Event.TheVariants as events
use Rattle.laws_runs.specs.HeldBoots.{BootClaims}
use Rattle.laws_runs.specs.KeyFiles.{KeysStand}
use Rattle.laws_runs.specs.LifePriority.{LifePriorityIsKept, PrioPart, TurnsKeepPriority}
use Rattle.laws_runs.specs.Past.{Happened, mover_in, past, prio_delivered_under, prio_sent_in, prio_sent_under, told_under}
use Rattle.laws_runs.specs.Premises.{Carries}
use Rattle.laws_runs.specs.Priority.{AreOnce, PriorityIsKept}
use Rattle.laws_runs.specs.Signs.{Good, NodeIs, Signs}
use Rattle.laws_runs.proofs.Begun.{good}
use Rattle.laws_runs.proofs.Goods.{unforged_both}
use Rattle.laws_runs.proofs.HeldBoots.{boots_ready, boots_rise, held_boots_are_born, turns_keep_boots}
use Rattle.laws_runs.proofs.KeyFiles.{key_files_stand, ready_once}
use Rattle.laws_runs.proofs.LifeCases.{Exhausts, LifeCase, Nobody, Starts_now, Stops, life_case}
use Rattle.laws_runs.proofs.Lists.{among_cons, among_or, here_is, none_either, told_more}
use Rattle.laws_runs.proofs.PastFacts.{past_is_plain, past_more, told_plain}
use Rattle.laws_runs.proofs.PrioFacts.{PrioIs, none_once}
use Rattle.laws_runs.proofs.PrioMoves.{PrioHold, numbers, prio_moved, prio_ready}
use Rattle.laws_runs.proofs.Reaches.{input_fits}
use Rattle.laws_runs.proofs.Running.{more_found, without_left}
use Rattle.laws_runs.proofs.Signed.{signs, signs_begin, signs_ready, turns_keep_signs}
use Rattle.laws_runs.proofs.Started.{of_craft}

-- ---- a turn in which no node moves

module _ (arts : Arts) (x : Setting) (s d : NodeId) (es : List Event) (js : List Entry) (happened : List Happened) (w new : World) (e : Event) (j : Entry)
    (even : length es ≡ length js) (h : PrioHold arts x s d es js happened w) where
  abbrev happened2 : List Happened
  happened2 = happened ++ record { event = e; entry = j; mover = None } ∷ []

  same_told : (p q : ℕ) → prio_delivered_under happened2 s p d q ≡ prio_delivered_under happened s p d q
  same_told p q =
      past_more (λ (y : Happened). told_under s p d q (told_at d (prio_by s) (y.event, y.entry)) y.mover) happened
      (record { event = e; entry = j; mover = None })
      ∙ append-nil (prio_delivered_under happened s p d q)

  same_sent : (p : ℕ) → prio_sent_under happened2 s p d ≡ prio_sent_under happened s p d
  same_sent p =
      past_more (λ (y : Happened). prio_sent_in s p d y y.mover) happened (record { event = e; entry = j; mover = None })
      ∙ append-nil (prio_sent_under happened s p d)

  -- the node was there, or nothing was told in its life
  pub prio_rests : ((n : NodeState) → node_in new.nodes d ≡ Some n
      → (node_in w.nodes d ≡ Some n) ⊎ (PrioIs s d [] n.parts.prio × ((p : ℕ) → prio_delivered_under happened s p d (held_boot n.parts.lives d) ≡ [])))
      → (numbers_at w.keys d).boot ≤ (numbers_at new.keys d).boot
      → ((b : Prio) → IsTrue (arts.is_good (bodies.Prio b)) → is_among (arts.spell (bodies.Prio b)) (told_at s signed_by (e, j)) ≡ true → ⊥)
      → PrioHold arts x s d (es ++ e ∷ []) (js ++ j ∷ []) happened2 new
  prio_rests nodes rise unsigned = record {
    node = λ n at. subst (λ (ms : List Message). PrioIs s d (numbers ms) n.parts.prio) (sym (same_told (held_boot n.parts.lives s) (held_boot n.parts.lives d)))
        (elim (nodes n at) [
          | inl was ↦ h.node n was
          | inr new_life ↦ subst (λ (ms : List Message). PrioIs s d (numbers ms) n.parts.prio) (sym (new_life.1 (held_boot n.parts.lives s))) new_life.0
        ]);
    fresh = λ n at p up. same_told p (held_boot n.parts.lives d) ∙ elim (nodes n at) [
      | inl was ↦ h.fresh n was p up
      | inr new_life ↦ new_life.1 p
    ];
    unborn = λ p q up. same_told p q ∙ h.unborn p q (omega (arith, rise, up));
    once = λ p q. subst (λ (ms : List Message). AreOnce (numbers ms)) (sym (same_told p q)) (h.once p q);
    authentic = λ k p q. subst (All (Contains (prio_sent_under happened2 s p d))) (sym (same_told p q))
        (subst (λ (ms : List Message). All (Contains ms) (prio_delivered_under happened s p d q)) (sym (same_sent p)) (h.authentic k p q));
    messages = λ k b good src dst among. subst (λ (ms : List Message). Contains ms (b.seq, b.payload)) (sym (same_sent b.sboot))
        (elim (among_or (arts.spell (bodies.Prio b)) (signed es js s) (told_at s signed_by (e, j))
        (subst (λ these. is_among (arts.spell (bodies.Prio b)) these ≡ true) (told_more (told_at s signed_by) es js e j even) among)) [
          | inl old ↦ h.messages k b good src dst old
          | inr now ↦ absurd (unsigned b good now)
        ]);
  }

-- nothing is signed where nothing is told
none_signed : (arts : Arts) (s : NodeId) (e : Event) (j : Entry) → j.effects ≡ [] → (b : Prio) → IsTrue (arts.is_good (bodies.Prio b))
    → is_among (arts.spell (bodies.Prio b)) (told_at s signed_by (e, j)) ≡ true → ⊥
none_signed arts s e j none b good among =
    let nothing : told_at s signed_by (e, j) ≡ [] = here_is s signed_by e j [] none ∙ none_either ((acting e).0 == s.0) in
    absurd (let f : false ≡ true = rw nothing at among in cc)

-- and a start signs no priority message
start_signed : (arts : Arts) (x : Setting) (es : List Event) (js : List Entry) (old new : World) (u : NodeId) (j : Entry) → SettingFits arts x
    → Carries x.topology.format arts → x.epochs ≡ true → KeysStand x es old → length es ≡ length js → InRange x es (events.Start u) → IsStart arts x old u j new
    → (s : NodeId) (b : Prio) → IsTrue (arts.is_good (bodies.Prio b))
    → is_among (arts.spell (bodies.Prio b)) (told_at s signed_by (events.Start u, j)) ≡ true → ⊥
start_signed arts x es js old new u j fits reads on keys even range start s b right among = go (u.0 == s.0) among
  where
    own : List ℕ
    own = arts.spell (own_epoch (fixed_at x u (next_start x old u).boot))

    tells : j.effects ≡ Signed (arts.spell (own_epoch (fixed_at x u (next_start x old u).boot))) ∷ []
    tells = start.effects ∙ rw on refl

    go : (t : Bool) → is_among (arts.spell (bodies.Prio b)) (cond t (flat_map signed_by j.effects) []) ≡ true → ⊥
    go false f = let g : false ≡ true = f in cc
    go true f =
        let here : is_among (arts.spell (bodies.Prio b)) (arts.spell (own_epoch (fixed_at x u (next_start x old u).boot)) ∷ []) ≡ true = rw tells at f in
        elim (among_cons (arts.spell (bodies.Prio b)) (arts.spell (own_epoch (fixed_at x u (next_start x old u).boot))) [] here) [
          | inl same ↦
              let wrong = no_other_is_spelled_so arts reads.bodies (own_epoch (fixed_at x u (next_start x old u).boot)) (bodies.Prio b)
              (good arts x es js old new u j fits reads on keys even range start).good right same in
              cc
          | inr g ↦ (let k : false ≡ true = g in cc)
        ]

-- ---- windows are as many as nodes, from a node's start on

windows_of : (x : Setting) (P : Kept → Type 0) (s d : NodeId) (told : List ℕ) (n : NodeState) → NodeIs x P d n
    → ((q : ℕ) → is_in q told ≡ true → is_seen (window_in n.parts.prio s.0) q ≡ true) → AreOnce told → PrioIs s d told n.parts.prio
windows_of x P s d told n is seen once = record {
  me = ap (λ (s : Shape). s.prio.me) is.shape;
  len = ap (λ (s : Shape). s.prio.windows) is.shape ∙ ap (λ (ns : List NodeId). length ns) (sym (ap (λ (s : Shape). s.prio.nodes) is.shape));
  seen = seen;
  once = once;
}

none_told : (x : Setting) (P : Kept → Type 0) (s d : NodeId) (n : NodeState) → NodeIs x P d n → PrioIs s d [] n.parts.prio
none_told x P s d n is = windows_of x P s d [] n is (λ q i. absurd (let f : false ≡ true = i in cc)) none_once

-- ---- one turn

module _ (arts : Arts) (x : Setting) (es : List Event) (js : List Entry) (old : World) (e : Event) (j : Entry) (new : World) (fits : SettingFits arts x)
    (reads : Carries x.topology.format arts) (keys : KeysStand x es old) (signs : Signs arts x es js old) (boots : BootClaims arts x es js old)
    (range : InRange x es e) (s d : NodeId) (happened : List Happened) (h : PrioHold arts x s d es js happened old) where
  abbrev es2 : List Event
  es2 = es ++ e ∷ []

  abbrev js2 : List Entry
  js2 = js ++ j ∷ []

  abbrev Now : Option NodeState → Type 0
  Now mover = PrioHold arts x s d es2 js2 (happened ++ record { event = e; entry = j; mover = mover } ∷ []) new

  -- the nodes are as before, and nothing is told
  prio_stays : new.nodes ≡ old.nodes → new.keys ≡ old.keys → j.effects ≡ [] → Now None
  prio_stays nodes files none =
      prio_rests arts x s d es js happened old new e j signs.entries h
      (λ n at. inl (subst (λ (ns : List NodeState). node_in ns d ≡ Some n) nodes at))
      (subst (λ (ks : List Numbers). (numbers_at old.keys d).boot ≤ (numbers_at ks d).boot) (sym files) (omega arith)) (none_signed arts s e j none)

  prio_started : (u : NodeId) → e ≡ events.Start u → IsStart arts x old u j new → x.epochs ≡ true → Signs arts x es2 js2 new → BootClaims arts x es2 js2 new
      → Now None
  prio_started u is start on after boots2 =
      prio_rests arts x s d es js happened old new e j signs.entries h nodes
      (subst (λ (w : World). (numbers_at old.keys d).boot ≤ (numbers_at w.keys d).boot) (sym start.world)
      (boots_rise old.keys (u.0 - 1) (d.0 - 1) (after_start x.total (numbers_at old.keys u)) (omega arith)))
      (λ b right among. start_signed arts x es js old new u j fits reads on keys signs.entries (subst (InRange x es) is range) start s b right
      (subst (λ (y : Event). is_among (arts.spell (bodies.Prio b)) (told_at s signed_by (y, j)) ≡ true) is among))
    where
      first : NodeState
      first = node_at_start arts x u (next_start x old u)

      begins : node_at_start arts x u (next_start x old u) ≡ announced arts (booted (fixed_at x u (next_start x old u).boot)
          (signer_from x u (next_start x old u).index (next_start x old u).bound) (link_keys x u) x.buffer x.store)
      begins = rw on refl

      nodes : (n : NodeState) → node_in new.nodes d ≡ Some n
          → (node_in old.nodes d ≡ Some n) ⊎ (PrioIs s d [] n.parts.prio × ((p : ℕ) → prio_delivered_under happened s p d (held_boot n.parts.lives d) ≡ []))
      nodes n at = elim (more_found d n (node_at_start arts x u (next_start x old u)) old.nodes
          (subst (λ (w : World). node_in w.nodes d ≡ Some n) start.world at)) [
            | inl was ↦ inl was
            | inr it ↦
                let mine : d ≡ u = it.0 ∙ ap (λ (m : NodeState). m.fixed.me) begins in
                let boot : held_boot n.parts.lives d ≡ (numbers_at old.keys d).boot + 1 =
                boots2.own on d n at
                ∙ ap (λ (m : NodeState). m.fixed.boot) (it.1 ∙ begins) ∙ ap (λ (v : NodeId). (numbers_at old.keys v).boot + 1) (sym mine) in
                inr (
                  none_told x (Good arts x es2 js2) s d n (after.nodes d n at),
                  λ p. h.unborn p (held_boot n.parts.lives d) (omega (arith, boot)),
                )
          ]

  prio_of_life : x.epochs ≡ true → LifeCase arts x old e j new → Signs arts x es2 js2 new → BootClaims arts x es2 js2 new → Now None
  prio_of_life on (Starts_now u is start) after boots2 = prio_started u is start on after boots2
  prio_of_life on (Exhausts u is none) after boots2 = prio_stays (ap (λ (w : World). w.nodes) none.world) (ap (λ (w : World). w.keys) none.world) none.effects
  prio_of_life on (Stops u is stop) after boots2 =
      let v = ready x old (events.Stop u) in
      prio_rests arts x s d es js happened v new e j signs.entries (prio_ready arts x s d es js happened old (events.Stop u) h)
      (λ n at. inl (without_left d u n v.nodes (subst (λ (w : World). node_in w.nodes d ≡ Some n) stop.world at) (ready_once x es old (events.Stop u) on keys)))
      (subst (λ (w : World). (numbers_at v.keys d).boot ≤ (numbers_at w.keys d).boot) (sym stop.world) (omega arith)) (none_signed arts s e j stop.effects)
  prio_of_life on (Nobody other down) after boots2 = prio_stays (ap (λ (w : World). w.nodes) down.world) (ap (λ (w : World). w.keys) down.world) down.effects

  pub prio_on : (turn : Turn arts x old e j new) → forged_in arts x es js old e j new turn ≡ None → Now (mover_in arts x old e j new turn)
  prio_on (Moves m) unforged =
      let v = ready x old e in
      let there = signs_ready arts x es js old e keys signs in
      prio_moved arts x s d fits reads es js happened v new e j there (boots_ready arts x es js old e boots) m
      (input_fits arts x es v m.node e m.input fits reads there.bytes range.fields m.reaches)
      (unforged_both (has_forged_tag arts x v m.node m.input) (forged_object arts x es js m.output.answered)
      (forged_document arts es m.output.adopted) unforged).1
      (prio_ready arts x s d es js happened old e h)
  prio_on (Stays spends) unforged = prio_stays (ap (λ (w : World). w.nodes) spends.world) (ap (λ (w : World). w.keys) spends.world) spends.effects
  prio_on (Lives on life) unforged =
      prio_of_life on (life_case arts x old e j new life) (turns_keep_signs arts x es js old e j new fits reads keys signs range (Lives on life) unforged)
      (turns_keep_boots arts x es js old e j new fits reads keys signs range (Lives on life) unforged boots)

-- ---- a whole run

prio_begins : (arts : Arts) (x : Setting) (s d : NodeId) → Signs arts x [] [] (at_start x) → PrioHold arts x s d [] [] [] (at_start x)
prio_begins arts x s d signs = record {
  node = λ n at. none_told x (Good arts x [] []) s d n (signs.nodes d n at);
  fresh = λ n at p up. refl;
  unborn = λ p q up. refl;
  once = λ p q. none_once;
  authentic = λ k p q. All-nil (Contains []);
  messages = λ k b good src dst among. absurd (let f : false ≡ true = among in cc);
}

prio_hold : (arts : Arts) (x : Setting) (es : List Event) (js : List Entry) (w : World) → SettingFits arts x → Carries x.topology.format arts
    → (run : Clean arts x es js w) → (s d : NodeId) → PrioHold arts x s d es js (past arts x es js w run) w
prio_hold arts x es js w fits reads Starts s d = prio_begins arts x s d (signs_begin arts x fits)
prio_hold arts x es js w fits reads (Turned {es = es'} {js = js'} {old = old} {e = e} {j = j} run range turn unforged) s d =
    prio_on arts x es' js' old e j w fits reads (key_files_stand arts x es' js' old fits run) (signs arts x es' js' old fits reads run)
    (held_boots_are_born arts x es' js' old fits reads run) range s d (past arts x es' js' old run)
    (prio_hold arts x es' js' old fits reads run s d) turn unforged

-- ---- the laws

part_of : (arts : Arts) (x : Setting) (s d : NodeId) (es : List Event) (js : List Entry) (happened : List Happened) (w : World)
    → PrioHold arts x s d es js happened w
    → PrioPart arts x s d es js happened w
part_of arts x s d es js happened w h = record {
  claims = record { once = h.once; authentic = h.authentic };
  seen = λ n at. (h.node n at).seen;
  fresh = h.fresh;
  unborn = h.unborn;
  messages = h.messages;
}

of_part : (arts : Arts) (x : Setting) (s d : NodeId) (es : List Event) (js : List Entry) (happened : List Happened) (w : World) → Signs arts x es js w
    → PrioPart arts x s d es js happened w → PrioHold arts x s d es js happened w
of_part arts x s d es js happened w signs c = record {
  node = λ n at.
      windows_of x (Good arts x es js) s d _ n (signs.nodes d n at) (c.seen n at)
      (c.claims.once (held_boot n.parts.lives s) (held_boot n.parts.lives d));
  fresh = c.fresh;
  unborn = c.unborn;
  once = c.claims.once;
  authentic = c.claims.authentic;
  messages = c.messages;
}

pub turns_keep_priority : TurnsKeepPriority
turns_keep_priority arts x es js old e j new fits reads keys signs boots range turn unforged s d happened c =
    part_of arts x s d (es ++ e ∷ []) (js ++ j ∷ []) (happened ++ record { event = e; entry = j; mover = mover_in arts x old e j new turn } ∷ []) new
    (prio_on arts x es js old e j new fits reads keys signs boots range s d happened (of_part arts x s d es js happened old signs c) turn unforged)

pub life_priority_is_kept : LifePriorityIsKept
life_priority_is_kept arts x es js w fits reads run s d correct =
    let h = prio_hold arts x es js w fits reads run s d in record { once = h.once; authentic = h.authentic }

-- without epochs all is told under the boots 0
pub priority_is_kept : PriorityIsKept
priority_is_kept arts x es js w fits reads run s d correct =
    let claims = life_priority_is_kept arts x es js w fits.fits reads run s d correct in
    let delivered : prio_delivered_under (past arts x es js w run) s 0 d 0 ≡ prio_delivered es js s d =
    past_is_plain (λ (h : Happened). told_under s 0 d 0 (told_at d (prio_by s) (h.event, h.entry)) h.mover) (told_at d (prio_by s))
    (λ e j n none. told_plain s d (told_at d (prio_by s) (e, j)) n none)
    (λ y old new e j spends. sym (here_is d (prio_by s) e j [] spends.effects ∙ none_either ((acting e).0 == d.0)))
    arts x es js w fits reads run in
    let sent : prio_sent_under (past arts x es js w run) s 0 d ≡ prio_sent es js s d =
    past_is_plain (λ (h : Happened). prio_sent_in s 0 d h h.mover) (λ p. prio_accepted_in s d p.0 p.1.reply)
    (λ e j n none. let zero = none s in rw zero refl)
    (λ y old new e j spends. sym (of_craft (λ f. prio_accepted_in s d f j.reply ≡ []) (λ c v key object. refl) (λ c v key version weights. refl)
    spends.key e spends.is_craft))
    arts x es js w fits reads run in
    record {
      once = subst (λ (ms : List Message). AreOnce (numbers ms)) delivered (claims.once 0 0);
      authentic = λ k. subst (λ (ms : List Message). All (Contains ms) (prio_delivered es js s d)) sent
          (subst (λ (ms : List Message). All (Contains (prio_sent_under (past arts x es js w run) s 0 d)) ms) delivered (claims.authentic k 0 0));
    }
