-- The part on flows over a whole run, whose nodes may start and stop.
use Rattle.std.proofs.Common.{◌≡◌, ◌<◌, ◌≤◌, ℕ, ◌+◌, Bool, true, false, List, [], ◌∷◌, ◌++◌, length, Some, None, refl, sym, ap, subst, ◌∙◌, inl, inr, arith}
use Rattle.std.proofs.Common.{Ok, map}
use Rattle.std.specs.Prelude.{◌&&◌, ◌==◌, IsTrue}
use Rattle.std.proofs.lemmas.Bool.{cases_Bool}
use Rattle.std.proofs.lemmas.List.{append-nil}
use Rattle.sp_base.specs.declared.id.NodeId.{NodeId}
use Rattle.sp_base.specs.declared.id.Flow.{Flow}
use Rattle.sp_epoch.specs.Numbers.{numbers_at}
use Rattle.sp_msg.specs.declared.body.Body.TheVariants as bodies
use Rattle.sp_msg.specs.declared.body.Body.{Body}
use Rattle.sp_msg.specs.declared.body.Epoch.{Epoch}
use Rattle.sp_msg.specs.declared.effect.Effect.TheVariants.{Signed}
use Rattle.sp_rules.specs.Arts.{Arts}
use Rattle.sp_rules.specs.Lives.{held_boot}
use Rattle.sp_rules.specs.Node.{NodeState, announced, booted, own_epoch}
use Rattle.sp_rules.specs.Parts.{Fixed, flows_of, nodes_of}
use Rattle.sp_rules.specs.declared.kflow.FlowKind.{FlowKind}
use Rattle.sp_rules.specs.declared.kflow.FlowKind.TheVariants.{Plain, Paths}
use Rattle.laws_node.specs.Flows.{IsRelOf}
use Rattle.laws_node.proofs.FlowKinds.{flows_hold as flows_hold_of}
use Rattle.sp_rules.specs.Window.{greatest}
use Rattle.sp_rules.specs.Rel.{is_over, ended_where, pairs_of}
use Rattle.sp_rules.specs.Flow.{FlowState, no_flow}
use Rattle.sp_rules.specs.Topologies.{removed_of}
use Rattle.laws_node.proofs.Spellings.{no_other_is_spelled_so}
use Rattle.sp_runs.specs.Forgery.{forged_document, forged_object, has_forged_tag, is_among}
use Rattle.sp_runs.specs.Inputs.{acting}
use Rattle.sp_runs.specs.Lives.{IsStart, next_start, ready}
use Rattle.sp_runs.specs.Runs.{Clean, InRange, Lives, Move, Moves, Starts, Stays, Turned, Turn, forged_in, next_frame}
use Rattle.sp_runs.specs.Settings.{Setting, SettingFits, fixed_at, is_correct, is_node, link_keys, node_at_boot, node_at_start, signer_from}
use Rattle.sp_runs.specs.Told.{accepted_in, signed_by, told_at}
use Rattle.sp_runs.specs.Worlds.{World, at_start, node_in}
use Rattle.sp_journal.specs.declared.entry.Entry.{Entry}
use Rattle.sp_schedule_events.specs.declared.event.Event.{Event}
use Rattle.sp_schedule_events.specs.declared.event.Event.TheVariants as events
use Rattle.laws_runs.specs.HeldBoots.{BootClaims}
use Rattle.laws_runs.specs.Flows.{AreNumbered}
use Rattle.laws_runs.specs.KeyFiles.{KeysStand}
use Rattle.laws_runs.specs.LifeFlows.{FlowPart, LifeFlowClaims, LifeFlowsAreKept, TurnsKeepFlows, ack_under, acknowledged_under, acks_under}
use Rattle.laws_runs.specs.Past.{Happened, delivered_under, mover_in, past, sent_under}
use Rattle.laws_runs.specs.Premises.{Carries}
use Rattle.laws_runs.specs.Signs.{Good, Signs, sizes_at}
use Rattle.laws_runs.proofs.Begun.{good}
use Rattle.laws_runs.proofs.FlowMoves.{moved_on, numbered_front}
use Rattle.laws_runs.proofs.FlowNodes.{StepIs}
use Rattle.laws_runs.proofs.FlowRows.{has_row, row_of_keys}
use Rattle.laws_runs.proofs.FlowStays.{all_same, first_at, readied_on, stays_on}
use Rattle.laws_runs.proofs.Flows.{FlowsHold, NodeAt, stepped}
use Rattle.laws_runs.proofs.Goods.{new_known, plain_start, started, unforged_both}
use Rattle.laws_runs.proofs.HeldBoots.{boots_ready, held_boots_are_born, rises, turns_keep_boots}
use Rattle.laws_runs.proofs.KeyFiles.{key_files_stand, ready_once}
use Rattle.laws_runs.proofs.LifeCases.{Exhausts, LifeCase, Nobody, Starts_now, Stops, life_case}
use Rattle.laws_runs.proofs.Lists.{among_cons}
use Rattle.laws_runs.proofs.Lives.{step_stays}
use Rattle.laws_runs.proofs.Reaches.{input_fits}
use Rattle.laws_runs.proofs.Running.{more_found, without_left}
use Rattle.laws_runs.proofs.SentLists.{lists_sent}
use Rattle.laws_runs.proofs.Signed.{signs, signs_ready, turns_keep_signs}
use Rattle.laws_runs.proofs.VouchedAcks.{vouched}
use Rattle.laws_runs.proofs.FlowFacts.{live, seat, seat_dst, seat_in, seat_src, flow_of}

-- ---- before the first event

-- what is removed from the start ends no flow
still_none : (gone : List NodeId) (flows : List Flow) → map (ended_where gone) (map no_flow flows) ≡ map no_flow flows
still_none gone [] = refl
still_none gone (f ∷ flows) = ap (λ (rest : List FlowState). no_flow f ∷ rest) (still_none gone flows)

none_at_boot : (x : Setting) → map (ended_where (removed_of (nodes_of x.topology) x.topology.edges)) (map no_flow (pairs_of (nodes_of x.topology)))
    ≡ map no_flow (pairs_of (nodes_of x.topology))
none_at_boot x = still_none (removed_of (nodes_of x.topology) x.topology.edges) (pairs_of (nodes_of x.topology))

-- a node that boots is the one of its flows, and nothing came of them
boot_me : (kind : FlowKind) (x : Setting) (u : NodeId) → (flows_of kind (node_at_boot x u).parts).me ≡ u
boot_me Plain x u = refl
boot_me Paths x u = refl

boot_flows : (kind : FlowKind) (x : Setting) (u : NodeId) → (flows_of kind (node_at_boot x u).parts).flows ≡ map no_flow (pairs_of (nodes_of x.topology))
boot_flows Plain x u = none_at_boot x
boot_flows Paths x u = none_at_boot x

begins : (kind : FlowKind) (arts : Arts) (x : Setting) (s d : NodeId) → (s ≡ d → ⊥) → is_node x s ≡ true → is_node x d ≡ true
    → FlowsHold kind arts x s d [] [] [] (at_start x)
begins kind arts x s d different from to = record {
  nodes = λ u n at.
      let is = started x (nodes_of x.topology) u n (plain_start x u n at).1 in
      subst (NodeAt kind arts (IsTrue (is_correct x s)) s d [] [] [] u) (sym is.0)
      (first_at kind arts (IsTrue (is_correct x s)) s d [] [] [] u (node_at_boot x u) (nodes_of x.topology) (boot_me kind x u) (boot_flows kind x u)
      (has_row (nodes_of x.topology) s d different from to) (λ z q. refl) (λ z p. (refl, refl)));
  prefix = λ k a b. ([], refl);
  low = λ a b. omega arith;
  numbers = λ k a b. tt;
  messages = λ k m is good said among. absurd (let e : false ≡ true = among in cc);
  unborn_source = λ a b lt. refl;
  unborn_end = λ a b lt. (refl, refl);
}

-- ---- a node starts

-- what it says of its start is of no flow
abbrev own_epoch_of : Fixed → Epoch
own_epoch_of f = record { origin = f.me; boot = f.boot }

no_epoch_ack : (kind : FlowKind) (s : NodeId) (p : ℕ) (d : NodeId) (q : ℕ) (e : Epoch) → ack_under kind s p d q (Ok (bodies.Epoch e)) ≡ []
no_epoch_ack Plain s p d q e = refl
no_epoch_ack Paths s p d q e = refl

no_epoch_rel : (kind : FlowKind) (e : Epoch) → IsRelOf kind (bodies.Epoch e) → ⊥
no_epoch_rel Plain e is = is
no_epoch_rel Paths e is = is

module _ (kind : FlowKind) (arts : Arts) (x : Setting) (es : List Event) (js : List Entry) (old new : World) (u : NodeId) (j : Entry)
    (fits : SettingFits arts x)
    (reads : Carries x.topology.format arts) (on : x.epochs ≡ true) (keys : KeysStand x es old) (even : length es ≡ length js)
    (range : InRange x es (events.Start u))
    (it : IsStart arts x old u j new) (boots : BootClaims arts x (es ++ events.Start u ∷ []) (js ++ j ∷ []) new)
    (s d : NodeId) (different : s ≡ d → ⊥) (from : is_node x s ≡ true) (to : is_node x d ≡ true) (before : List Happened)
    (h : FlowsHold kind arts x s d es js before old) where
  abbrev C : Type 0
  C = IsTrue (is_correct x s)

  abbrev f : Fixed
  f = fixed_at x u (next_start x old u).boot

  -- as it booted, and signed
  abbrev first : NodeState
  first = announced arts (booted (fixed_at x u (next_start x old u).boot) (signer_from x u (next_start x old u).index (next_start x old u).bound)
      (link_keys x u) x.buffer x.store)

  first_me : (k : FlowKind) → (flows_of k first.parts).me ≡ first.fixed.me
  first_me Plain = refl
  first_me Paths = refl

  first_flows : (k : FlowKind) → (flows_of k first.parts).flows ≡ map no_flow (pairs_of (nodes_of x.topology))
  first_flows Plain = none_at_boot x
  first_flows Paths = none_at_boot x

  is_first : node_at_start arts x u (next_start x old u) ≡ first
  is_first = rw on refl

  tells : j.effects ≡ Signed (arts.spell (own_epoch f)) ∷ []
  tells = it.effects ∙ rw on refl

  right : IsTrue (arts.is_good (own_epoch f))
  right = (good arts x es js old new u j fits reads on keys even range it).good

  no_acks : (p q : ℕ) → greatest (acks_under kind arts s p d q (told_at d signed_by (events.Start u, j))) ≡ 0
  no_acks p q = elim (cases_Bool (u.0 == d.0)) [
    | inl t ↦
        let read : ack_under kind s p d q (arts.read (arts.spell (own_epoch f))) ≡ [] =
        ap (ack_under kind s p d q) (reads.bodies (own_epoch f) right) ∙ no_epoch_ack kind s p d q (own_epoch_of f) in
        rw (t, tells) (ap greatest (append-nil (ack_under kind s p d q (arts.read (arts.spell (own_epoch f)))) ∙ read))
    | inr t ↦ rw t refl
  ]

  no_message : (m : Body) → IsRelOf kind m → IsTrue (arts.is_good m) → is_among (arts.spell m) (told_at s signed_by (events.Start u, j)) ≡ true → ⊥
  no_message m is good_m among = elim (cases_Bool (u.0 == s.0)) [
    | inl t ↦
        let there : is_among (arts.spell m) (arts.spell (own_epoch f) ∷ []) ≡ true = rw (t, tells) at among in
        elim (among_cons (arts.spell m) (arts.spell (own_epoch f)) [] there) [
          | inl e ↦ no_epoch_rel kind (own_epoch_of f)
              (subst (IsRelOf kind) (sym (no_other_is_spelled_so arts reads.bodies (own_epoch f) m right good_m e)) is)
          | inr g ↦ absurd (let e : false ≡ true = g in cc)
        ]
    | inr t ↦ absurd (let e : false ≡ true = rw t at among in cc)
  ]

  -- it holds its own boot, under which nothing was sent, delivered or acknowledged
  begun : (v : NodeId) (n : NodeState) → node_in new.nodes v ≡ Some n → (v ≡ u) × (n ≡ first) → NodeAt kind arts C s d es js before v n
  begun v n at is =
      let own : held_boot n.parts.lives v ≡ (numbers_at old.keys v).boot + 1 =
      boots.own on v n at ∙ ap (λ (m : NodeState). m.fixed.boot) is.1 ∙ ap (λ (w : NodeId). (numbers_at old.keys w).boot + 1) (sym is.0) in
      let mine : (w : NodeId) → v ≡ w → (numbers_at old.keys w).boot < held_boot n.parts.lives w =
      λ w z. subst (λ (y : NodeId). (numbers_at old.keys y).boot < held_boot n.parts.lives y) z (omega (arith, own)) in
      first_at kind arts C s d es js before v n (nodes_of x.topology)
      (ap (λ (m : NodeState). (flows_of kind m.parts).me) is.1 ∙ first_me kind ∙ sym is.0)
      (ap (λ (m : NodeState). (flows_of kind m.parts).flows) is.1 ∙ first_flows kind) (has_row (nodes_of x.topology) s d different from to)
      (λ z q. h.unborn_source (held_boot n.parts.lives s) q (mine s z)) (λ z p. h.unborn_end p (held_boot n.parts.lives d) (mine d z))

  pub started_on : FlowsHold kind arts x s d (es ++ events.Start u ∷ []) (js ++ j ∷ [])
      (before ++ record { event = events.Start u; entry = j; mover = None } ∷ []) new
  started_on =
      all_same kind arts x s d es js before old new (events.Start u) j even h no_acks no_message
      (rises arts x es js old new u j fits reads on keys even range it)
      (λ v n at. elim (more_found v n (node_at_start arts x u (next_start x old u)) old.nodes (subst (λ (y : World). node_in y.nodes v ≡ Some n) it.world at)) [
        | inl was ↦ h.nodes v n was
        | inr is ↦ begun v n at (is.0 ∙ ap (λ (m : NodeState). m.fixed.me) is_first, is.1 ∙ is_first)
      ])

-- ---- one turn

-- what holds where signed objects, key files and held boots are as they are in a run
pub record TurnIs (arts : Arts) (x : Setting) (es : List Event) (js : List Entry) (old : World) (e : Event) (j : Entry) (new : World) : Type 0 where
  pub fits : SettingFits arts x
  pub reads : Carries x.topology.format arts
  pub keys : KeysStand x es old
  pub signs : Signs arts x es js old
  pub boots : BootClaims arts x es js old
  pub range : InRange x es e
  pub turn : Turn arts x old e j new
  pub unforged : forged_in arts x es js old e j new turn ≡ None

-- the step of the node that moves
pub step_of : (kind : FlowKind) (arts : Arts) (x : Setting) (es : List Event) (js : List Entry) (old : World) (e : Event) (j : Entry) (new : World)
    → (m : Move arts x (ready x old e) e j new) → (t : TurnIs arts x es js old e j new) → t.turn ≡ Moves m
    → (s d : NodeId) (correct : IsTrue (is_correct x d)) (different : s ≡ d → ⊥) (before : List Happened) → FlowsHold kind arts x s d es js before old
    → StepIs kind arts (IsTrue (is_correct x s)) s d (held_boot m.node.parts.lives s) (held_boot m.node.parts.lives d)
    (sent_under kind before s (held_boot m.node.parts.lives s) d (held_boot m.node.parts.lives d)) (accepted_in kind s d e j.reply)
    (delivered_under kind before s (held_boot m.node.parts.lives s) d (held_boot m.node.parts.lives d))
    (acknowledged_under kind arts es js s (held_boot m.node.parts.lives s) d (held_boot m.node.parts.lives d))
    (λ p q. sent_under kind before s p d q) (λ p q. delivered_under kind before s p d q) (λ p q. acknowledged_under kind arts es js s p d q)
    (acting e) m.output.effects m.node m.after
step_of kind arts x es js old e j new m t is s d correct different before h =
    let w = ready x old e in
    let there = signs_ready arts x es js old e t.keys t.signs in
    let unforged = subst (λ (y : Turn arts x old e j new). forged_in arts x es js old e j new y ≡ None) is t.unforged in
    let nothing =
    unforged_both (has_forged_tag arts x w m.node m.input) (forged_object arts x es js m.output.answered) (forged_document arts es m.output.adopted)
    unforged in
    let ready_h = readied_on kind arts x s d es js before old e h in
    stepped kind arts x s d different t.fits t.reads correct es js before w ready_h j m.node e (next_frame w e) m.input m.output m.after m.reaches
    (input_fits arts x es w m.node e m.input t.fits t.reads there.bytes t.range.fields m.reaches) m.step m.journal (there.nodes (acting e) m.node m.is_there)
    (new_known arts x es js m.output.answered nothing.1) (ready_h.nodes (acting e) m.node m.is_there)

flows_of_life : (kind : FlowKind) (arts : Arts) (x : Setting) (es : List Event) (js : List Entry) (old : World) (e : Event) (j : Entry) (new : World)
    → x.epochs ≡ true
    → (t : TurnIs arts x es js old e j new) → (s d : NodeId) → is_node x s ≡ true → is_node x d ≡ true → (s ≡ d → ⊥) → (before : List Happened)
    → FlowsHold kind arts x s d es js before old → LifeCase arts x old e j new
    → FlowsHold kind arts x s d (es ++ e ∷ []) (js ++ j ∷ []) (before ++ record { event = e; entry = j; mover = None } ∷ []) new
flows_of_life kind arts x es js old e j new on t s d from to different before h (Starts_now u is it) =
    let boots = turns_keep_boots arts x es js old e j new t.fits t.reads t.keys t.signs t.range t.turn t.unforged t.boots in
    subst (λ (y : Event). FlowsHold kind arts x s d (es ++ y ∷ []) (js ++ j ∷ []) (before ++ record { event = y; entry = j; mover = None } ∷ []) new) (sym is)
    (started_on kind arts x es js old new u j t.fits t.reads on t.keys t.signs.entries (subst (InRange x es) is t.range) it
    (subst (λ (y : Event). BootClaims arts x (es ++ y ∷ []) (js ++ j ∷ []) new) is boots) s d different from to before h)
flows_of_life kind arts x es js old e j new on t s d from to different before h (Exhausts u is none) =
    stays_on kind arts x s d es js before old new e j t.signs.entries h none.effects
    (λ v. subst (λ (y : World). (numbers_at old.keys v).boot ≤ (numbers_at y.keys v).boot) (sym none.world) (omega arith))
    (λ v n at. subst (λ (y : World). node_in y.nodes v ≡ Some n) none.world at)
flows_of_life kind arts x es js old e j new on t s d from to different before h (Stops u is stop) =
    let w = ready x old (events.Stop u) in
    stays_on kind arts x s d es js before w new e j t.signs.entries (readied_on kind arts x s d es js before old (events.Stop u) h) stop.effects
    (λ v. subst (λ (y : World). (numbers_at w.keys v).boot ≤ (numbers_at y.keys v).boot) (sym stop.world) (omega arith))
    (λ v n at. without_left v u n w.nodes (subst (λ (y : World). node_in y.nodes v ≡ Some n) stop.world at) (ready_once x es old (events.Stop u) on t.keys))
flows_of_life kind arts x es js old e j new on t s d from to different before h (Nobody other down) =
    stays_on kind arts x s d es js before old new e j t.signs.entries h down.effects
    (λ v. subst (λ (y : World). (numbers_at old.keys v).boot ≤ (numbers_at y.keys v).boot) (sym down.world) (omega arith))
    (λ v n at. subst (λ (y : World). node_in y.nodes v ≡ Some n) down.world at)

pub flows_on : (kind : FlowKind) (arts : Arts) (x : Setting) (es : List Event) (js : List Entry) (old : World) (e : Event) (j : Entry) (new : World)
    → (t : TurnIs arts x es js old e j new)
    → (s d : NodeId) → is_node x s ≡ true → is_node x d ≡ true → IsTrue (is_correct x d) → (s ≡ d → ⊥) → (before : List Happened)
    → FlowsHold kind arts x s d es js before old
    → FlowsHold kind arts x s d (es ++ e ∷ []) (js ++ j ∷ []) (before ++ record { event = e; entry = j; mover = mover_in arts x old e j new t.turn } ∷ []) new
flows_on kind arts x es js old e j new t s d from to correct different before h = go t.turn refl
  where
    go : (turn : Turn arts x old e j new) → t.turn ≡ turn
        → FlowsHold kind arts x s d (es ++ e ∷ []) (js ++ j ∷ []) (before ++ record { event = e; entry = j; mover = mover_in arts x old e j new turn } ∷ []) new
    go (Moves m) is =
        let there = signs_ready arts x es js old e t.keys t.signs in
        let boots = boots_ready arts x es js old e t.boots in
        let me : m.after.fixed.me ≡ acting e =
        ap (λ (f : Fixed). f.me) ((step_stays arts m.node m.input m.output m.after m.step).fixed ∙ (there.nodes (acting e) m.node m.is_there).fixed) in
        moved_on kind arts x s d es js before (ready x old e) new e j m t.signs.entries me (readied_on kind arts x s d es js before old e h)
        (λ v n at. boots.born v v n at (there.nodes v n at).correct)
        (step_of kind arts x es js old e j new m t is s d correct different before h)
    go (Stays spends) is =
        stays_on kind arts x s d es js before old new e j t.signs.entries h spends.effects
        (λ v. subst (λ (y : World). (numbers_at old.keys v).boot ≤ (numbers_at y.keys v).boot) (sym spends.world) (omega arith))
        (λ v n at. subst (λ (y : World). node_in y.nodes v ≡ Some n) spends.world at)
    go (Lives on life) is = flows_of_life kind arts x es js old e j new on t s d from to different before h (life_case arts x old e j new life)

-- ---- a whole run

-- each turn of a run is such
abbrev pub turn_is : (arts : Arts) (x : Setting) (es : List Event) (js : List Entry) (old : World) (e : Event) (j : Entry) (new : World) → SettingFits arts x
    → Carries x.topology.format arts → Clean arts x es js old → InRange x es e → (turn : Turn arts x old e j new)
    → forged_in arts x es js old e j new turn ≡ None
    → TurnIs arts x es js old e j new
turn_is arts x es js old e j new fits reads run range turn unforged = record {
  fits = fits;
  reads = reads;
  keys = key_files_stand arts x es js old fits run;
  signs = signs arts x es js old fits reads run;
  boots = held_boots_are_born arts x es js old fits reads run;
  range = range;
  turn = turn;
  unforged = unforged;
}

pub flows_hold : (kind : FlowKind) (arts : Arts) (x : Setting) (es : List Event) (js : List Entry) (w : World) → SettingFits arts x
    → Carries x.topology.format arts
    → (run : Clean arts x es js w) → (s d : NodeId) → is_node x s ≡ true → is_node x d ≡ true → IsTrue (is_correct x d) → (s ≡ d → ⊥)
    → FlowsHold kind arts x s d es js (past arts x es js w run) w
flows_hold kind arts x es js w fits reads Starts s d from to correct different = begins kind arts x s d different from to
flows_hold kind arts x es js w fits reads (Turned {es = es'} {js = js'} {old = old} {e = e} {j = j} run range turn unforged) s d from to correct different =
    flows_on kind arts x es' js' old e j w (turn_is arts x es' js' old e j w fits reads run range turn unforged) s d from to correct different
    (past arts x es' js' old run) (flows_hold kind arts x es' js' old fits reads run s d from to correct different)

-- ---- the claims

first_true : (a b : Bool) → (a && b) ≡ true → a ≡ true
first_true true b e = refl
first_true false b e = absurd (let f : false ≡ true = e in cc)

-- and what they come from
claims_of : (kind : FlowKind) (arts : Arts) (x : Setting) (es : List Event) (js : List Entry) (happened : List Happened) (w : World) → SettingFits arts x
    → Signs arts x es js w
    → (s d : NodeId) → is_node x s ≡ true → is_node x d ≡ true → IsTrue (is_correct x d) → FlowsHold kind arts x s d es js happened w
    → LifeFlowClaims kind arts x s d es js happened w
claims_of kind arts x es js happened w fits signs s d from to correct h = record {
  base = λ u n at. (h.nodes u n at).rel.flow.base;
  base_at_end = λ n at free. (live _ s d _ _ _ d (flows_of kind n.parts) free (h.nodes d n at).rel).base_end refl;
  acknowledged = h.low;
  vouched = λ u n at. vouched kind arts x s d es js fits from to correct u n (signs.nodes u n at) ((signs.nodes u n at).acks kind);
  have_at_end = λ n at free. (live _ s d _ _ _ d (flows_of kind n.parts) free (h.nodes d n at).rel).have_end refl;
  have = λ k u n at. (h.nodes u n at).rel.flow.have k;
  have_at_source = λ k n at free. (live _ s d _ _ _ s (flows_of kind n.parts) free (h.nodes s n at).rel).have_source k refl;
  lists = λ k u n at. lists_sent kind arts x s d es js happened w fits h k from to u n (signs.nodes u n at);
  messages = h.messages;
  prefix = h.prefix;
  numbered = λ k a b.
      let p = h.prefix k a b in
      numbered_front 0 (delivered_under kind happened s a d b) p.0 (subst (AreNumbered 0) p.1 (h.numbers k a b));
  sent_numbered = h.numbers;
}

pub flows_are_kept_over_lives : LifeFlowsAreKept
flows_are_kept_over_lives kind arts x es js w fits reads run s d from correct different =
    let to = first_true (is_node x d) _ correct in
    claims_of kind arts x es js (past arts x es js w run) w fits (signs arts x es js w fits reads run) s d from to correct
    (flows_hold kind arts x es js w fits reads run s d from to correct different)

-- ---- one turn of any world

of_claims : (kind : FlowKind) (arts : Arts) (x : Setting) (es : List Event) (js : List Entry) (happened : List Happened) (w : World) → Signs arts x es js w
    → (s d : NodeId) → is_node x s ≡ true → is_node x d ≡ true → (s ≡ d → ⊥) → FlowPart kind arts x s d es js happened w
    → FlowsHold kind arts x s d es js happened w
of_claims kind arts x es js happened w signs s d from to different h = record {
  nodes = λ u n at.
      let rel = flows_hold_of kind (sizes_at x (Good arts x es js) u) n.parts (signs.nodes u n at).holds.parts in
      let there : (v : NodeId) → u ≡ v → node_in w.nodes v ≡ Some n = λ v same. subst (λ (y : NodeId). node_in w.nodes y ≡ Some n) same at in
      record {
        rel = record {
          me = rel.me;
          row = row_of_keys (nodes_of x.topology) s d (flows_of kind n.parts).flows different from to rel.keys;
          flow = record {
            base = h.claims.base u n at;
            base_end = λ same. h.claims.base_at_end n (there d (seat_dst (is_over (flows_of kind n.parts).removed (flow_of s d)) s d u same)) (on_dst n u same);
            have_end = λ same. h.claims.have_at_end n (there d (seat_dst (is_over (flows_of kind n.parts).removed (flow_of s d)) s d u same)) (on_dst n u same);
            have = λ k. h.claims.have k u n at;
            have_source =
                λ k same. h.claims.have_at_source k n (there s (seat_src (is_over (flows_of kind n.parts).removed (flow_of s d)) s d u same)) (on_src n u same);
          };
        };
        fresh_source = λ same. h.fresh_source n (there s same);
        fresh_end = λ same. h.fresh_end n (there d same);
      };
  prefix = h.claims.prefix;
  low = h.claims.acknowledged;
  numbers = h.claims.sent_numbered;
  messages = h.claims.messages;
  unborn_source = h.unborn_source;
  unborn_end = h.unborn_end;
}
  where
    -- who sits at an end has a flow that hasn't ended
    on_dst : (n : NodeState) (u : NodeId) → seat_in s d u (flows_of kind n.parts) ≡ d → is_over (flows_of kind n.parts).removed (flow_of s d) ≡ false
    on_dst n u q = go (is_over (flows_of kind n.parts).removed (flow_of s d)) refl q
      where
        go : (t : Bool) → is_over (flows_of kind n.parts).removed (flow_of s d) ≡ t → seat t s d u ≡ d
            → is_over (flows_of kind n.parts).removed (flow_of s d) ≡ false
        go false is q = is
        go true is q = absurd (let e : s.0 + d.0 + 1 ≡ d.0 = ap (λ (v : NodeId). v.0) q in omega (arith, e))

    on_src : (n : NodeState) (u : NodeId) → seat_in s d u (flows_of kind n.parts) ≡ s → is_over (flows_of kind n.parts).removed (flow_of s d) ≡ false
    on_src n u q = go (is_over (flows_of kind n.parts).removed (flow_of s d)) refl q
      where
        go : (t : Bool) → is_over (flows_of kind n.parts).removed (flow_of s d) ≡ t → seat t s d u ≡ s
            → is_over (flows_of kind n.parts).removed (flow_of s d) ≡ false
        go false is q = is
        go true is q = absurd (let e : s.0 + d.0 + 1 ≡ s.0 = ap (λ (v : NodeId). v.0) q in omega (arith, e))

pub turns_keep_flows : TurnsKeepFlows
turns_keep_flows kind arts x es js old e j new fits reads keys signs boots range turn unforged s d from correct different happened h =
    let to = first_true (is_node x d) _ correct in
    let after = flows_on kind arts x es js old e j new
    (record { fits = fits; reads = reads; keys = keys; signs = signs; boots = boots; range = range; turn = turn; unforged = unforged })
    s d from to correct different happened (of_claims kind arts x es js happened old signs s d from to different h) in
    let signs_after = turns_keep_signs arts x es js old e j new fits reads keys signs range turn unforged in
    record {
      claims = claims_of kind arts x (es ++ e ∷ []) (js ++ j ∷ []) (happened ++ record { event = e; entry = j; mover = mover_in arts x old e j new turn } ∷ [])
          new
          fits signs_after s d from to correct after;
      fresh_source = λ n at. (after.nodes s n at).fresh_source refl;
      fresh_end = λ n at. (after.nodes d n at).fresh_end refl;
      unborn_source = after.unborn_source;
      unborn_end = after.unborn_end;
    }
