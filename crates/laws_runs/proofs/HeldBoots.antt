-- In every run a node holds its own boot of itself, and no boot of a correct node that this one didn't take: only a start signs a boot, which is the next one.
use Rattle.std.proofs.Common.{◌≡◌, ◌≤◌, ◌-◌, ℕ, zero, suc, ◌==◌, Bool, true, false, cond, List, [], ◌∷◌, ◌++◌, length, slice_set, Some, None, refl, sym, ap}
use Rattle.std.proofs.Common.{subst, ◌∙◌, inl, inr, arith}
use Rattle.std.specs.Prelude.{◌⊎◌, IsTrue, not, slice_index_or}
use Rattle.std.specs.List.{flat_map, list_any}
use Rattle.std.proofs.lemmas.Bool.{cases_Bool, cases_eq, eq-eqb, eqb-true, ne_eqb}
use Rattle.sp_base.specs.declared.id.NodeId.{NodeId}
use Rattle.sp_epoch.specs.Numbers.{after_start, numbers_at}
use Rattle.sp_epoch.specs.declared.started.Started.{Started}
use Rattle.sp_epoch.proofs.NumberLemmas.{at_own}
use Rattle.sp_keystate.specs.States.{first_numbers}
use Rattle.sp_keystate.specs.declared.numbers.Numbers.{Numbers}
use Rattle.sp_msg.specs.Views.{signer_of}
use Rattle.sp_msg.specs.declared.body.Body.{Body}
use Rattle.sp_msg.specs.declared.body.Body.TheVariants as bodies
use Rattle.sp_msg.specs.declared.body.Epoch.{Epoch}
use Rattle.sp_msg.specs.declared.effect.Effect.TheVariants.{Signed}
use Rattle.sp_msg.specs.declared.kept.Kept.{Kept}
use Rattle.sp_rules.specs.Arts.{Arts}
use Rattle.sp_rules.specs.Lives.{boot_of, boot_said, held, held_boot, is_life, no_life, origin_said, start}
use Rattle.sp_rules.specs.Node.{NodeState, announced, booted, own_epoch, signed_now}
use Rattle.sp_rules.specs.Parts.{Fixed, Parts, nodes_of}
use Rattle.sp_rules.specs.declared.answers.Item.{Item}
use Rattle.sp_rules.specs.declared.lives.Life.{Life}
use Rattle.laws_node.specs.Asked.{NewKeep}
use Rattle.laws_node.specs.Inputs.{InputFits}
use Rattle.laws_node.proofs.Epochs.{own_boot_stays}
use Rattle.laws_node.proofs.Spellings.{no_other_is_spelled_so}
use Rattle.laws_node.proofs.TableReads.{first_replaced, other_replaced}
use Rattle.sp_runs.specs.Forgery.{forged_document, forged_object, has_forged_tag, is_among}
use Rattle.sp_runs.specs.Inputs.{acting}
use Rattle.sp_runs.specs.Lives.{IsStart, next_start, ready}
use Rattle.sp_runs.specs.Runs.{InRange, Lives, Move, Moves, Starts, Stays, Turned}
use Rattle.sp_runs.specs.Settings.{Setting, SettingFits, fixed_at, is_correct, is_node, is_one_of, link_keys, node_at_start, signer_from}
use Rattle.sp_runs.specs.Told.{signed, signed_by, told_at}
use Rattle.sp_runs.specs.Worlds.{World, at_start, node_in}
use Rattle.sp_journal.specs.declared.entry.Entry.{Entry}
use Rattle.sp_schedule_events.specs.declared.event.Event.{Event}
use Rattle.sp_schedule_events.specs.declared.event.Event.TheVariants as events
use Rattle.laws_runs.specs.HeldBoots.{BootClaims, BootsBegin, HeldBootsAreBorn, TurnsKeepBoots}
use Rattle.laws_runs.specs.KeyFiles.{KeysStand}
use Rattle.laws_runs.specs.Premises.{Carries}
use Rattle.laws_runs.specs.Signs.{Good, Known, Signs}
use Rattle.laws_runs.proofs.Begun.{good}
use Rattle.laws_runs.proofs.Goods.{new_known, unforged_both}
use Rattle.laws_runs.proofs.KeyFiles.{has_file, key_files_stand, ready_once}
use Rattle.laws_runs.proofs.LifeCases.{Exhausts, LifeCase, Nobody, Starts_now, Stops, life_case}
use Rattle.laws_runs.proofs.Lists.{among_cons, among_or, both, told_more}
use Rattle.laws_runs.proofs.Lives.{step_stays}
use Rattle.laws_runs.proofs.Reaches.{input_fits}
use Rattle.laws_runs.proofs.Ready.{ready_boots, readied_parts, was_there}
use Rattle.laws_runs.proofs.Running.{more_found, without_left}
use Rattle.laws_runs.proofs.Signed.{signs, signs_begin, signs_ready, turns_keep_signs}
use Rattle.laws_runs.proofs.SignedEvents.{new_have}
use Rattle.laws_runs.proofs.StartPieces.{SaysMost, step_below}
use Rattle.laws_runs.proofs.StepSigns.{StepSigns, no_start_asked, step_signs, which_signed}
use Rattle.laws_runs.proofs.Tables.{node_is, node_put, same_node}
use Rattle.laws_runs.proofs.Unborn.{none_at_start}

-- ---- what a start leaves

any_life : (u : NodeId) (nodes : List NodeId) → list_any (λ (n : NodeId). n.0 == u.0) nodes ≡ true → list_any (is_life u) (start nodes) ≡ true
any_life u [] there = absurd (let e : false ≡ true = there in cc)
any_life u (n ∷ nodes) there = elim (cases_Bool (n.0 == u.0)) [
  | inl t ↦ rw t refl
  | inr t ↦ rw t (any_life u nodes (rw t at there))
]

row_of : Kept → Life
row_of o = record { node = origin_said o.body; object = Some o }

first_own : (nodes : List NodeId) (o : Kept) → list_any (λ (n : NodeId). n.0 == (origin_said o.body).0) nodes ≡ true
    → held_boot (held (start nodes) o) (origin_said o.body) ≡ boot_said o.body
unfolding row_of
first_own nodes o there =
    let v = origin_said o.body in
    ap (λ (l : Life). boot_of l.object) (first_replaced (is_life v) (no_life v) (row_of o) (start nodes) (eq-eqb v.0 v.0 refl) (any_life v nodes there))

first_other : (nodes : List NodeId) (o : Kept) (v : NodeId) → ((origin_said o.body).0 ≡ v.0 → ⊥) → held_boot (held (start nodes) o) v ≡ 0
unfolding row_of
first_other nodes o v other =
    let u = origin_said o.body in
    ap (λ (l : Life). boot_of l.object) (other_replaced (is_life u) (is_life v) (no_life v) (row_of o) (start nodes)
    (λ l is. ne_eqb _ _ (λ same. other (sym (eqb-true l.node.0 u.0 is) ∙ same))) (ne_eqb _ _ other))
    ∙ none_at_start nodes v

-- ---- key files

-- no boot falls where the one that is written isn't lower
pub boots_rise : (ks : List Numbers) (i k : ℕ) (n : Numbers) → (slice_index_or ks i first_numbers).boot ≤ n.boot
    → (slice_index_or ks k first_numbers).boot ≤ (slice_index_or (slice_set ks i n) k first_numbers).boot
boots_rise [] i k n up = omega arith
boots_rise (m ∷ ks) zero zero n up = up
boots_rise (m ∷ ks) zero (suc k) n up = omega arith
boots_rise (m ∷ ks) (suc i) zero n up = omega arith
boots_rise (m ∷ ks) (suc i) (suc k) n up = boots_rise ks i k n up

-- ---- one turn

-- the world in which a node acts
pub boots_ready : (arts : Arts) (x : Setting) (es : List Event) (js : List Entry) (w : World) (e : Event) → BootClaims arts x es js w
    → BootClaims arts x es js (ready x w e)
boots_ready arts x es js w e h = record {
  own = λ on u n at.
      let was = was_there x w e u n at in
      let same = readied_parts x w was.before n was.readied in
      ap (λ (p : Parts). held_boot p.lives u) same.0 ∙ h.own on u was.before was.is_there ∙ sym (ap (λ (f : Fixed). f.boot) same.1);
  none = λ off u v n at.
      let was = was_there x w e u n at in
      ap (λ (p : Parts). held_boot p.lives v) (readied_parts x w was.before n was.readied).0 ∙ h.none off u v was.before was.is_there;
  born = λ u v n at correct.
      let was = was_there x w e u n at in
      let same = ap (λ (p : Parts). held_boot p.lives v) (readied_parts x w was.before n was.readied).0 in
      let low = h.born u v was.before was.is_there correct in
      let boots = ready_boots x w e v in
      omega (arith, same, low, boots);
  signed = λ o good among. let low = h.signed o good among in let boots = ready_boots x w e o.origin in omega (arith, low, boots);
}

module _ (arts : Arts) (x : Setting) (es : List Event) (js : List Entry) (even : length es ≡ length js) (e : Event) (j : Entry) where
  abbrev es2 : List Event
  es2 = es ++ e ∷ []

  abbrev js2 : List Entry
  js2 = js ++ j ∷ []

  abbrev now_signed : NodeId → List (List ℕ)
  now_signed v = told_at v signed_by (e, j)

  -- what was signed before, or is signed now
  signed_or : (v : NodeId) (bytes : List ℕ) → is_among bytes (signed es2 js2 v) ≡ true
      → (is_among bytes (signed es js v) ≡ true) ⊎ (is_among bytes (now_signed v) ≡ true)
  signed_or v bytes among =
      among_or bytes (signed es js v) (now_signed v)
      (subst (λ (these : List (List ℕ)). is_among bytes these ≡ true) (told_more (told_at v signed_by) es js e j even) among)

  none_told : (v : NodeId) (bytes : List ℕ) → flat_map signed_by j.effects ≡ [] → is_among bytes (now_signed v) ≡ true → ⊥
  none_told v bytes none among = go ((acting e).0 == v.0) among
    where
      go : (t : Bool) → is_among bytes (cond t (flat_map signed_by j.effects) []) ≡ true → ⊥
      go true f = let wrong : false ≡ true = rw none at f in cc
      go false f = let wrong : false ≡ true = f in cc

  -- nodes that were there, with boots in key files that didn't fall; nothing is signed
  boots_stay : (w new : World) → BootClaims arts x es js w → ((u : NodeId) (n : NodeState) → node_in new.nodes u ≡ Some n → node_in w.nodes u ≡ Some n)
      → ((v : NodeId) → (numbers_at w.keys v).boot ≤ (numbers_at new.keys v).boot) → flat_map signed_by j.effects ≡ [] → BootClaims arts x es2 js2 new
  boots_stay w new h nodes rise none = record {
    own = λ on u n at. h.own on u n (nodes u n at);
    none = λ off u v n at. h.none off u v n (nodes u n at);
    born = λ u v n at correct. let low = h.born u v n (nodes u n at) correct in let up = rise v in omega (arith, low, up);
    signed = λ o good among. elim (signed_or o.origin (arts.spell (bodies.Epoch o)) among) [
      | inl old ↦ let low = h.signed o good old in let up = rise o.origin in omega (arith, low, up)
      | inr now ↦ absurd (none_told o.origin (arts.spell (bodies.Epoch o)) none now)
    ];
  }

  -- what is new says of the start of a correct node what that one signed
  known_below : (w : World) (v : NodeId) → BootClaims arts x es js w → IsTrue (is_correct x v) → (o : Kept) → Known arts x es js o
      → IsTrue (arts.is_good o.body)
      → SaysMost v (numbers_at w.keys v).boot o
  known_below w v h correct o known good = record { boot = go o.body refl }
    where
      go : (body : Body) → o.body ≡ body → origin_said body ≡ v → boot_said body ≤ (numbers_at w.keys v).boot
      go (bodies.Epoch b) is from =
          let signer : signer_of o.body ≡ v = ap signer_of is ∙ from in
          let among : is_among (arts.spell o.body) (signed es js (signer_of o.body)) ≡ true = known
          (subst (λ (u : NodeId). IsTrue (is_correct x u)) (sym signer) correct) in
          let here : is_among (arts.spell (bodies.Epoch b)) (signed es js b.origin) ≡ true =
          subst (λ (y : Body). is_among (arts.spell y) (signed es js (signer_of y)) ≡ true) is among in
          let low = h.signed b (subst (λ (y : Body). IsTrue (arts.is_good y)) is good) here in
          subst (λ (u : NodeId). b.boot ≤ (numbers_at w.keys u).boot) from low
      go (bodies.Prio b) is from = omega arith
      go (bodies.Rel b) is from = omega arith
      go (bodies.Ack b) is from = omega arith
      go (bodies.Weight b) is from = omega arith
      go (bodies.Krel b) is from = omega arith
      go (bodies.Kack b) is from = omega arith

  all_known_below : (w : World) (v : NodeId) → BootClaims arts x es js w → IsTrue (is_correct x v) → (answered : List (Kept × Item))
      → NewKeep (Known arts x es js) answered
      → NewKeep (λ o. IsTrue (arts.is_good o.body)) answered → NewKeep (SaysMost v (numbers_at w.keys v).boot) answered
  all_known_below w v h correct [] known goods = tt
  all_known_below w v h correct (a ∷ others) known goods =
      (λ new. known_below w v h correct a.0 (known.0 new) (goods.0 new), all_known_below w v h correct others known.1 goods.1)

  -- a node moves
  boots_moved : (w new : World) → SettingFits arts x → Carries x.topology.format arts → Signs arts x es js w → BootClaims arts x es js w
      → (m : Move arts x w e j new)
      → InputFits m.input → forged_object arts x es js m.output.answered ≡ None
      → (x.epochs ≡ false → (u v : NodeId) (n : NodeState) → node_in new.nodes u ≡ Some n → held_boot n.parts.lives v ≡ 0)
      → BootClaims arts x es2 js2 new
  boots_moved w new fits reads signs h m reach unforged plain =
      let me : m.node.fixed.me ≡ acting e = node_is w.nodes (acting e) m.node m.is_there in
      let stays = step_stays arts m.node m.input m.output m.after m.step in
      let after_me : m.after.fixed.me ≡ acting e = ap (λ (f : Fixed). f.me) stays.fixed ∙ me in
      let is = signs.nodes (acting e) m.node m.is_there in
      let known = new_known arts x es js m.output.answered unforged in
      let goods = new_have (λ o. IsTrue (arts.is_good o.body)) arts m.node m.input m.output m.after reads.goods reach m.step in
      let keys : new.keys ≡ w.keys = ap (λ (y : World). y.keys) m.world in
      let low : (v : NodeId) (k : ℕ) → k ≤ (numbers_at w.keys v).boot → k ≤ (numbers_at new.keys v).boot =
      λ v k le. subst (λ (ks : List Numbers). k ≤ (numbers_at ks v).boot) (sym keys) le in
      let found : (u : NodeId) (n : NodeState) → node_in new.nodes u ≡ Some n
      → ((u ≡ acting e) × (n ≡ m.after)) ⊎ ((u ≡ acting e → ⊥) × (node_in w.nodes u ≡ Some n)) =
      λ u n at. node_put u (acting e) m.after n w.nodes after_me (subst (λ (y : World). node_in y.nodes u ≡ Some n) m.world at) in
      record {
        own = λ on u n at. elim (found u n at) [
          | inl it ↦
              let kept = subst (λ (v : NodeId). held_boot m.after.parts.lives v ≡ held_boot m.node.parts.lives v) me
              (own_boot_stays arts m.node m.input m.output m.after m.step) in
              let here : held_boot m.after.parts.lives (acting e) ≡ m.after.fixed.boot =
              kept ∙ h.own on (acting e) m.node m.is_there ∙ sym (ap (λ (f : Fixed). f.boot) stays.fixed) in
              subst (λ (y : NodeState). held_boot y.parts.lives u ≡ y.fixed.boot) (sym it.1)
              (subst (λ (v : NodeId). held_boot m.after.parts.lives v ≡ m.after.fixed.boot) (sym it.0) here)
          | inr other ↦ h.own on u n other.1
        ];
        none = plain;
        born = λ u v n at correct. low v (held_boot n.parts.lives v) (elim (found u n at) [
          | inl it ↦
              subst (λ (y : NodeState). held_boot y.parts.lives v ≤ (numbers_at w.keys v).boot) (sym it.1)
              (step_below arts v (numbers_at w.keys v).boot m.node m.input m.output m.after m.step
              (all_known_below w v h correct m.output.answered known goods) (h.born (acting e) v m.node m.is_there correct))
          | inr other ↦ h.born u v n other.1 correct
        ]);
        signed = λ o good among. low o.origin o.boot (elim (signed_or o.origin (arts.spell (bodies.Epoch o)) among) [
          | inl old ↦ h.signed o good old
          | inr now ↦ absurd (none_signed o good
              (step_signs arts x (Good arts x es js) fits (acting e) m.node m.output m.after is m.input reach m.step) m.journal.effects
              ((acting e).0 == o.origin.0) now)
        ]);
      }
    where
      none_signed : (o : Epoch) → IsTrue (arts.is_good (bodies.Epoch o)) → StepSigns arts m.input m.output.effects → j.effects ≡ m.output.effects
          → (t : Bool) → is_among (arts.spell (bodies.Epoch o)) (cond t (flat_map signed_by j.effects) []) ≡ true → ⊥
      none_signed o good s told false among = let f : false ≡ true = among in cc
      none_signed o good s told true among =
          let it = which_signed arts m.input m.output.effects (arts.spell (bodies.Epoch o)) s (rw told at among) in
          no_start_asked m.input it.body o it.said.asked (no_other_is_spelled_so arts reads.bodies it.body (bodies.Epoch o) it.said.good good it.is)

-- a node starts
module _ (arts : Arts) (x : Setting) (es : List Event) (js : List Entry) (old new : World) (u : NodeId) (j : Entry) (fits : SettingFits arts x)
    (reads : Carries x.topology.format arts) (on : x.epochs ≡ true) (keys : KeysStand x es old) (even : length es ≡ length js)
    (range : InRange x es (events.Start u))
    (it : IsStart arts x old u j new) where
  abbrev s : Started
  s = next_start x old u

  abbrev f : Fixed
  f = fixed_at x u (next_start x old u).boot

  abbrev before : NodeState
  before = booted (fixed_at x u (next_start x old u).boot) (signer_from x u (next_start x old u).index (next_start x old u).bound)
      (link_keys x u) x.buffer x.store

  abbrev object : Kept
  object = signed_now arts before (own_epoch f)

  begins : node_at_start arts x u s ≡ announced arts before
  begins = rw on refl

  pub rises : (v : NodeId) → (numbers_at old.keys v).boot ≤ (numbers_at new.keys v).boot
  rises v =
      subst (λ (y : World). (numbers_at old.keys v).boot ≤ (numbers_at y.keys v).boot) (sym it.world)
      (boots_rise old.keys (u.0 - 1) (v.0 - 1) (after_start x.total (numbers_at old.keys u)) (omega arith))

  -- the boot of its key file is that of its life
  is_taken : (numbers_at new.keys u).boot ≡ s.boot
  is_taken =
      ap (λ (y : World). (numbers_at y.keys u).boot) it.world
      ∙ ap (λ (k : Numbers). k.boot)
      (at_own old.keys u u (after_start x.total (numbers_at old.keys u)) (has_file arts x es old u fits range.fields.0 keys) refl)

  is_known : list_any (λ (n : NodeId). n.0 == u.0) (nodes_of x.topology) ≡ true
  is_known = (both (is_node x u) (not (is_one_of x.bad u)) range.fields.0).0

  own_boot : held_boot (announced arts before).parts.lives u ≡ s.boot
  own_boot = first_own (nodes_of x.topology) object is_known

  first_below : (v : NodeId) → held_boot (announced arts before).parts.lives v ≤ (numbers_at new.keys v).boot
  first_below v = elim (cases_eq u.0 v.0) [
    | inl same ↦
        subst (λ (w : NodeId). held_boot (announced arts before).parts.lives w ≤ (numbers_at new.keys w).boot) (same_node u v same)
        (let own = own_boot in let taken = is_taken in omega (arith, own, taken))
    | inr other ↦ let none : held_boot (announced arts before).parts.lives v ≡ 0 = first_other (nodes_of x.topology) object v other in omega (arith, none)
  ]

  boots_started : BootClaims arts x es js old → BootClaims arts x (es ++ events.Start u ∷ []) (js ++ j ∷ []) new
  boots_started h =
      let found : (v : NodeId) (n : NodeState) → node_in new.nodes v ≡ Some n → (node_in old.nodes v ≡ Some n) ⊎ ((v ≡ u) × (n ≡ announced arts before)) =
      λ v n at. elim (more_found v n (node_at_start arts x u s) old.nodes (subst (λ (y : World). node_in y.nodes v ≡ Some n) it.world at)) [
        | inl was ↦ inl was
        | inr is ↦ inr (is.0 ∙ ap (λ (y : NodeState). y.fixed.me) begins, is.1 ∙ begins)
      ] in
      record {
        own = λ also v n at. elim (found v n at) [
          | inl was ↦ h.own also v n was
          | inr is ↦
              subst (λ (y : NodeState). held_boot y.parts.lives v ≡ y.fixed.boot) (sym is.1)
              (subst (λ (w : NodeId). held_boot (announced arts before).parts.lives w ≡ s.boot) (sym is.0) own_boot)
        ];
        none = λ off. absurd (let wrong : false ≡ true = sym off ∙ on in cc);
        born = λ v w n at correct. elim (found v n at) [
          | inl was ↦ let low = h.born v w n was correct in let up = rises w in omega (arith, low, up)
          | inr is ↦ subst (λ (y : NodeState). held_boot y.parts.lives w ≤ (numbers_at new.keys w).boot) (sym is.1) (first_below w)
        ];
        signed = λ o right among. elim (signed_or arts x es js even (events.Start u) j o.origin (arts.spell (bodies.Epoch o)) among) [
          | inl was ↦ let low = h.signed o right was in let up = rises o.origin in omega (arith, low, up)
          | inr now ↦ go o right (u.0 == o.origin.0) refl now
        ];
      }
    where
      tells : j.effects ≡ Signed (arts.spell (own_epoch f)) ∷ []
      tells = it.effects ∙ rw on refl

      go : (o : Epoch) → IsTrue (arts.is_good (bodies.Epoch o)) → (t : Bool) → (u.0 == o.origin.0) ≡ t
          → is_among (arts.spell (bodies.Epoch o)) (cond t (flat_map signed_by j.effects) []) ≡ true → o.boot ≤ (numbers_at new.keys o.origin).boot
      go o right false other among = absurd (let wrong : false ≡ true = among in cc)
      go o right true same among =
          let here : is_among (arts.spell (bodies.Epoch o)) (arts.spell (own_epoch f) ∷ []) ≡ true = rw tells at among in
          elim (among_cons (arts.spell (bodies.Epoch o)) (arts.spell (own_epoch f)) [] here) [
            | inl is_it ↦
                let is : own_epoch f ≡ bodies.Epoch o =
                no_other_is_spelled_so arts reads.bodies (own_epoch f) (bodies.Epoch o)
                (good arts x es js old new u j fits reads on keys even range it).good right is_it in
                let boot : s.boot ≡ o.boot = ap boot_said is in
                subst (λ (v : NodeId). o.boot ≤ (numbers_at new.keys v).boot) (same_node u o.origin (eqb-true _ _ same))
                (let taken = is_taken in omega (arith, boot, taken))
            | inr g ↦ absurd (let wrong : false ≡ true = g in cc)
          ]

boots_of_life : (arts : Arts) (x : Setting) (es : List Event) (js : List Entry) (old : World) (e : Event) (j : Entry) (new : World) → SettingFits arts x
    → Carries x.topology.format arts → x.epochs ≡ true → KeysStand x es old → Signs arts x es js old → InRange x es e → LifeCase arts x old e j new
    → BootClaims arts x es js old → BootClaims arts x (es ++ e ∷ []) (js ++ j ∷ []) new
boots_of_life arts x es js old e j new fits reads on keys signs range (Starts_now u is it) h =
    subst (λ (y : Event). BootClaims arts x (es ++ y ∷ []) (js ++ j ∷ []) new) (sym is)
    (boots_started arts x es js old new u j fits reads on keys signs.entries (subst (InRange x es) is range) it h)
boots_of_life arts x es js old e j new fits reads on keys signs range (Exhausts u is none) h =
    boots_stay arts x es js signs.entries e j old new h
    (λ v n at. subst (λ (y : World). node_in y.nodes v ≡ Some n) none.world at)
    (λ v. subst (λ (y : World). (numbers_at old.keys v).boot ≤ (numbers_at y.keys v).boot) (sym none.world) (omega arith))
    (ap (flat_map signed_by) none.effects)
boots_of_life arts x es js old e j new fits reads on keys signs range (Stops u is stop) h =
    boots_stay arts x es js signs.entries e j (ready x old (events.Stop u)) new (boots_ready arts x es js old (events.Stop u) h)
    (λ v n at. without_left v u n (ready x old (events.Stop u)).nodes (subst (λ (y : World). node_in y.nodes v ≡ Some n) stop.world at)
    (ready_once x es old (events.Stop u) on keys))
    (λ v. subst (λ (y : World). (numbers_at (ready x old (events.Stop u)).keys v).boot ≤ (numbers_at y.keys v).boot) (sym stop.world) (omega arith))
    (ap (flat_map signed_by) stop.effects)
boots_of_life arts x es js old e j new fits reads on keys signs range (Nobody other down) h =
    boots_stay arts x es js signs.entries e j old new h
    (λ v n at. subst (λ (y : World). node_in y.nodes v ≡ Some n) down.world at)
    (λ v. subst (λ (y : World). (numbers_at old.keys v).boot ≤ (numbers_at y.keys v).boot) (sym down.world) (omega arith))
    (ap (flat_map signed_by) down.effects)

-- each turn of which nothing is forged keeps it, where key files and signed objects are as they are in a run
pub turns_keep_boots : TurnsKeepBoots
turns_keep_boots arts x es js old e j new fits reads keys signs range (Moves m) unforged h =
    let v = ready x old e in
    let there = signs_ready arts x es js old e keys signs in
    let nothing =
    unforged_both (has_forged_tag arts x v m.node m.input) (forged_object arts x es js m.output.answered) (forged_document arts es m.output.adopted)
    unforged in
    let after = turns_keep_signs arts x es js old e j new fits reads keys signs range (Moves m) unforged in
    boots_moved arts x es js signs.entries e j v new fits reads there (boots_ready arts x es js old e h) m
    (input_fits arts x es v m.node e m.input fits reads there.bytes range.fields m.reaches) nothing.1
    (λ off u w n at. ((after.nodes u n at).plain off).unborn.lives w)
turns_keep_boots arts x es js old e j new fits reads keys signs range (Stays spends) unforged h =
    boots_stay arts x es js signs.entries e j old new h
    (λ v n at. subst (λ (y : World). node_in y.nodes v ≡ Some n) spends.world at)
    (λ v. subst (λ (y : World). (numbers_at old.keys v).boot ≤ (numbers_at y.keys v).boot) (sym spends.world) (omega arith))
    (ap (flat_map signed_by) spends.effects)
turns_keep_boots arts x es js old e j new fits reads keys signs range (Lives on life) unforged h =
    boots_of_life arts x es js old e j new fits reads on keys signs range (life_case arts x old e j new life) h

-- ---- every run

pub boots_begin : BootsBegin
boots_begin arts x fits = record {
  own = λ on u n at. absurd (let none : None ≡ Some n = rw on at at in cc);
  none = λ off u v n at. (((signs_begin arts x fits).nodes u n at).plain off).unborn.lives v;
  born = λ u v n at correct. go x.epochs refl u v n at;
  signed = λ o good among. absurd (let f : false ≡ true = among in cc);
}
  where
    go : (on : Bool) → x.epochs ≡ on → (u v : NodeId) (n : NodeState) → node_in (at_start x).nodes u ≡ Some n
        → held_boot n.parts.lives v ≤ (numbers_at (at_start x).keys v).boot
    go true on u v n at = absurd (let none : None ≡ Some n = rw on at at in cc)
    go false off u v n at = let zero = (((signs_begin arts x fits).nodes u n at).plain off).unborn.lives v in omega (arith, zero)

pub held_boots_are_born : HeldBootsAreBorn
held_boots_are_born arts x es js w fits reads Starts = boots_begin arts x fits
held_boots_are_born arts x es js w fits reads (Turned {es = es'} {js = js'} {old = old} {e = e} {j = j} run range turn unforged) =
    turns_keep_boots arts x es' js' old e j w fits reads (key_files_stand arts x es' js' old fits run)
    (signs arts x es' js' old fits reads run) range turn unforged
    (held_boots_are_born arts x es' js' old fits reads run)
