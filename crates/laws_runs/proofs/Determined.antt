-- A journal says all that was left open: so it determines each turn, the node that moved in it, and the run.
use Rattle.std.proofs.Common.{◌≡◌, ◌<◌, ◌≤◌, ℕ, Bool, true, false, cond, List, [], ◌∷◌, ◌++◌}
use Rattle.std.proofs.Common.{length, length-append, Option, Some, None, refl, sym, ap, ap₂, ne_eqb, subst, ◌∙◌, inl, inr, arith}
use Rattle.std.specs.Prelude.{IsTrue, is_some, nat_lt, not, option_map, unwrap_or, ◌==◌}
use Rattle.std.proofs.lemmas.Bool.Decides.{nat_tests}
use Rattle.sp_base.specs.Cursor.{or_else}
use Rattle.sp_base.specs.declared.id.NodeId.{NodeId}
use Rattle.sp_msg.specs.declared.effect.Effect.{Effect}
use Rattle.sp_msg.specs.declared.kept.Kept.{Kept}
use Rattle.sp_msg.specs.declared.refused.SendRefused.{SendRefused}
use Rattle.sp_rules.specs.Arts.{Arts}
use Rattle.sp_rules.specs.Node.{NodeState}
use Rattle.sp_rules.specs.Parts.{Fixed, is_signed}
use Rattle.sp_msg.specs.declared.mask.Mask.{Mask as MaskOf}
use Rattle.sp_rules.specs.Kflow.{waiting_mask}
use Rattle.sp_rules.specs.KflowSends.{KSend, krel_body, krel_number, krel_refusal, mask_for, no_mask}
use Rattle.sp_rules.specs.Masks.{Choice, Mask, OnlyPaths}
use Rattle.sp_rules.specs.Sends.{PrioSend, no_paths, prio_refusal, prio_sent, signed_effect}
use Rattle.sp_rules.specs.Steps as steps
use Rattle.sp_rules.specs.Steps.{Input, NodeStep, Output, accepted, refused_send}
use Rattle.laws_node.specs.Inputs.{ArtsFit, InputFits, ReadsBack}
use Rattle.laws_node.specs.Nodes.{IsKept}
use Rattle.laws_node.proofs.Determined.{steps_are_determined}
use Rattle.laws_node.proofs.Weaker.{node_weaker}
use Rattle.sp_runs.specs.Inputs.{acting, crafted_contents, crafted_frame, flipped, input_of, crafted_document, last_weights, may_sign}
use Rattle.sp_runs.specs.Journals.{Says, reply_word}
use Rattle.sp_runs.specs.Lives.{IsOther, Life, is_missing, ready}
use Rattle.sp_runs.specs.Runs.{Clean, InRange, IsCraftOf, Lives, Move, Moves, Spends, Starts, Stays, Turn, Turned, crafted_after, directions_after, next_frame}
use Rattle.sp_runs.specs.Settings.{Setting, SettingFits}
use Rattle.sp_runs.specs.Worlds.{Crafted, Direction, World, at_start, crafts, frame_in, is_running, with_node}
use Rattle.sp_journal.specs.declared.entry.Entry.{Entry}
use Rattle.sp_schedule_crafts.specs.Objects.{body_of}
use Rattle.sp_schedule_events.specs.Documents.{list_in, with_list}
use Rattle.sp_frame.specs.Sections.{with_document}
use Rattle.sp_schedule_events.specs.declared.event.Event.{Event}
use Rattle.sp_schedule_events.specs.declared.event.Event.TheVariants as events
use Rattle.laws_runs.specs.Past.{Happened, mover_in, past}
use Rattle.laws_runs.specs.Premises.{Carries}
use Rattle.laws_runs.specs.States.{PastIsDetermined, RunsAreDetermined}
use Rattle.laws_runs.specs.Signs.{Good, NodeIs, sizes_at}
use Rattle.laws_runs.proofs.Goods.{arts_fit}
use Rattle.laws_runs.proofs.Kept.{read_off}
use Rattle.laws_runs.proofs.LifeCases.{Exhausts, LifeCase, Nobody, Starts_now, Stops, life_case}
use Rattle.laws_runs.proofs.Reaches.{input_fits}
use Rattle.laws_runs.proofs.Ready.{ready_any, ready_crafts, ready_frames}
use Rattle.laws_runs.proofs.Running.{found_there}
use Rattle.laws_runs.proofs.Signed.{signs_there}
use Rattle.laws_runs.proofs.Started.{craft_other, moves_other, of_craft}
use Rattle.laws_runs.proofs.Tables.{same_node}

-- ---- one output

abbrev by : NodeState → Arts → PrioSend → Choice → Option SendRefused → Output
by n arts m c r = refused_send (or_else r (no_paths c)) (accepted n.parts.prio.next (prio_sent arts n m c))

abbrev over : Arts → NodeState → KSend → Choice → Option MaskOf → Option SendRefused → Output
over arts n m c waiting r =
    refused_send (or_else r (no_mask waiting c)) (accepted (krel_number n m.dst) (signed_effect arts (krel_body n m (mask_for waiting c)) ∷ []))

module _ (x : Setting) (number : ℕ) (j : Entry) where
  same_word : (a b : steps.Reply) → reply_word x number a ≡ Some j.reply → reply_word x number b ≡ Some j.reply → reply_word x number a ≡ reply_word x number b
  same_word a b p q = p ∙ sym q

  by_choice : (arts : Arts) (n : NodeState) (m : PrioSend) (c d : Choice) → Says x number (by n arts m c None) j → Says x number (by n arts m d None) j
      → by n arts m c None ≡ by n arts m d None
  by_choice arts n m (Mask k) (Mask l) p q =
      ap (λ (es : List Effect). accepted n.parts.prio.next es) (sym p.effects ∙ q.effects)
  by_choice arts n m (OnlyPaths f) (OnlyPaths g) p q =
      let words = p.reply ∙ sym q.reply in
      let same : f ≡ g = cc in
      ap (λ (k : ℕ). by n arts m (OnlyPaths k) None) same
  by_choice arts n m (Mask k) (OnlyPaths g) p q = absurd (let words = p.reply ∙ sym q.reply in cc)
  by_choice arts n m (OnlyPaths f) (Mask l) p q = absurd (let words = p.reply ∙ sym q.reply in cc)

  by_refusal : (arts : Arts) (n : NodeState) (m : PrioSend) (r : Option SendRefused) (c d : Choice) → Says x number (by n arts m c r) j
      → Says x number (by n arts m d r) j → by n arts m c r ≡ by n arts m d r
  by_refusal arts n m (Some f) c d p q = refl
  by_refusal arts n m None c d p q = by_choice arts n m c d p q

  -- a message on paths: the mask that stays, or one that was chosen
  over_choice : (arts : Arts) (n : NodeState) (m : KSend) (waiting : Option MaskOf) (c d : Choice) → Says x number (over arts n m c waiting None) j
      → Says x number (over arts n m d waiting None) j → over arts n m c waiting None ≡ over arts n m d waiting None
  over_choice arts n m (Some mask) c d p q = refl
  over_choice arts n m None (Mask k) (Mask l) p q =
      ap (λ (es : List Effect). accepted (krel_number n m.dst) es) (sym p.effects ∙ q.effects)
  over_choice arts n m None (OnlyPaths f) (OnlyPaths g) p q =
      let words = p.reply ∙ sym q.reply in
      let same : f ≡ g = cc in
      ap (λ (k : ℕ). over arts n m (OnlyPaths k) None None) same
  over_choice arts n m None (Mask k) (OnlyPaths g) p q = absurd (let words = p.reply ∙ sym q.reply in cc)
  over_choice arts n m None (OnlyPaths f) (Mask l) p q = absurd (let words = p.reply ∙ sym q.reply in cc)

  over_refusal : (arts : Arts) (n : NodeState) (m : KSend) (r : Option SendRefused) (c d : Choice)
      → Says x number (over arts n m c (waiting_mask n.parts.kflow m.dst) r) j → Says x number (over arts n m d (waiting_mask n.parts.kflow m.dst) r) j
      → over arts n m c (waiting_mask n.parts.kflow m.dst) r ≡ over arts n m d (waiting_mask n.parts.kflow m.dst) r
  over_refusal arts n m (Some f) c d p q = refl
  over_refusal arts n m None c d p q = over_choice arts n m (waiting_mask n.parts.kflow m.dst) c d p q

  one_output : (arts : Arts) (n : NodeState) (input : Input) (o p : Output) (a b : NodeState) → NodeStep arts n input o a → NodeStep arts n input p b
      → Says x number o j → Says x number p j → o ≡ p
  one_output arts n (steps.Poll v) o p a b s t one two = s.0 ∙ sym t.0
  one_output arts n (steps.Datagram v bytes) o p a b s t one two = s.0 ∙ sym t.0
  one_output arts n (steps.Tick now) o p a b s t one two = s.0 ∙ sym t.0
  one_output arts n (steps.SendRel dst payload) o p a b s t one two = s.0 ∙ sym t.0
  one_output arts n (steps.SendPrio m) o p a b s t one two =
      s.output_is
      ∙ by_refusal arts n m (prio_refusal n m) s.choice t.choice (subst (λ (y : Output). Says x number y j) s.output_is one)
      (subst (λ (y : Output). Says x number y j) t.output_is two)
      ∙ sym t.output_is
  one_output arts n (steps.SetWeight v weight) o p a b s t one two = s.0 ∙ sym t.0
  one_output arts n (steps.TakeRel src) o p a b s t one two = s.0 ∙ sym t.0
  one_output arts n (steps.TakeKrel src) o p a b s t one two = s.0 ∙ sym t.0
  one_output arts n (steps.SendKrel m) o p a b s t one two =
      s.output_is
      ∙ over_refusal arts n m (krel_refusal n m) s.choice t.choice (subst (λ (y : Output). Says x number y j) s.output_is one)
      (subst (λ (y : Output). Says x number y j) t.output_is two)
      ∙ sym t.output_is
  one_output arts n steps.TakePrio o p a b s t one two = s.0 ∙ sym t.0
  one_output arts n (steps.Publish document) o p a b s t one two = s.0 ∙ sym t.0

-- ---- one turn

same_some : {X : Type 0} (a b : X) → Some a ≡ Some b → a ≡ b
same_some a b e = cc

world_of : World → Event → NodeState → steps.Reply → World
world_of old e after reply = record {
  keys = old.keys;
  nodes = with_node old.nodes (acting e) after;
  directions = directions_after old.directions e reply;
  crafted = crafted_after old.crafted e;
  published = with_list old.published (list_in e);
}

-- two turns lead to one world, and the same node moved
pub record OneTurn (w v : World) (first second : Option NodeState) : Type 0 where
  pub world : w ≡ v
  pub mover : first ≡ second

by_moves : (arts : Arts) → ReadsBack arts → (x : Setting) (old w v : World) (e : Event) (j : Entry) (m : Move arts x old e j w) (n : Move arts x old e j v)
    → ArtsFit arts m.node.fixed m.node.signer → InputFits m.input → IsKept arts m.node → OneTurn w v (Some m.node) (Some n.node)
unfolding world_of
by_moves arts reads x old w v e j m n arts_are fits kept =
    let node : n.node ≡ m.node = same_some n.node m.node (sym n.is_there ∙ m.is_there) in
    let input : n.input ≡ m.input =
    same_some n.input m.input (sym n.reaches ∙ ap (λ (y : NodeState). input_of arts x old y e) node ∙ m.reaches) in
    let step : NodeStep arts m.node m.input n.output n.after =
    subst (λ (y : NodeState). NodeStep arts y m.input n.output n.after) node (subst (λ (i : Input). NodeStep arts n.node i n.output n.after) input n.step) in
    let output : m.output ≡ n.output = one_output x
    (next_frame old e) j arts m.node m.input m.output n.output m.after n.after m.step step m.journal n.journal in
    let after : m.after ≡ n.after =
    steps_are_determined arts m.node m.input m.output m.after n.after reads arts_are fits kept m.step
    (subst (λ (o : Output). NodeStep arts m.node m.input o n.after) (sym output) step) in
    record {
      world = m.world ∙ ap₂ (λ (a : NodeState) (o : Output). world_of old e a o.reply) after output ∙ sym n.world;
      mover = ap Some (sym node);
    }

-- a crafting signer that is spent brings nothing
not_both : (arts : Arts) (x : Setting) (old w : World) (e : Event) (j : Entry) (key : NodeId) → Move arts x old e j w → IsCraftOf key e
    → x.total ≤ crafts old.crafted key → ⊥
not_both arts x old w (events.Craft c u k object) j key m is spent = go (nat_lt (crafts old.crafted k) x.total) refl m.reaches
  where
    bytes : List ℕ
    bytes = crafted_frame arts m.node c (crafted_contents arts x old.crafted m.node k (body_of object))

    go : (t : Bool) → nat_lt (crafts old.crafted k) x.total ≡ t → cond t (Some (steps.Datagram c bytes)) None ≡ Some m.input → ⊥
    go true few e =
        let most : x.total ≤ crafts old.crafted k = subst (λ (u : NodeId). x.total ≤ crafts old.crafted u) (sym is) spent in
        let below : crafts old.crafted k < x.total = grind (arith, nat_tests, few) in
        omega (arith, most, below)
    go false few e = cc
not_both arts x old w (events.CraftDocument c u k version weights) j key m is spent = go (may_sign x old.crafted k) refl m.reaches
  where
    bytes : List ℕ
    bytes = crafted_frame arts m.node c (with_document (crafted_document arts x old.crafted k version (unwrap_or weights (last_weights x old.published))))

    go : (t : Bool) → may_sign x old.crafted k ≡ t → cond t (Some (steps.Datagram c bytes)) None ≡ Some m.input → ⊥
    go true few e =
        let own : (k == 0) ≡ false = let some = is.1 in ne_eqb k 0 (λ zero. omega (arith, zero, some)) in
        let most : x.total ≤ crafts old.crafted (record { 0 = k }) =
        subst (λ (u : NodeId). x.total ≤ crafts old.crafted u) (same_node key (record { 0 = k }) (sym is.0)) spent in
        let left : nat_lt (crafts old.crafted (record { 0 = k })) x.total ≡ true = rw own at few in
        let below : crafts old.crafted (record { 0 = k }) < x.total = grind (arith, nat_tests, left) in
        omega (arith, most, below)
    go false few e = cc
not_both arts x old w (events.Publish u weights) j key m is spent = is
not_both arts x old w (events.Rel a b p) j key m is spent = is
not_both arts x old w (events.Krel a b count p) j key m is spent = is
not_both arts x old w (events.Prio a b c d f p) j key m is spent = is
not_both arts x old w (events.Take a b) j key m is spent = is
not_both arts x old w (events.KTake a b) j key m is spent = is
not_both arts x old w (events.TakePrio a) j key m is spent = is
not_both arts x old w (events.Tick a b) j key m is spent = is
not_both arts x old w (events.Weight a b c) j key m is spent = is
not_both arts x old w (events.Poll a b) j key m is spent = is
not_both arts x old w (events.Pass a b c) j key m is spent = is
not_both arts x old w (events.Flip a b c d f) j key m is spent = is
not_both arts x old w (events.Inject a b c) j key m is spent = is
not_both arts x old w (events.CraftStatus a b c d f g) j key m is spent = is
not_both arts x old w (events.Start a) j key m is spent = is
not_both arts x old w (events.Stop a) j key m is spent = is

spent_moves : (arts : Arts) (x : Setting) (old w v : World) (e : Event) (j : Entry) → Move arts x (ready x old e) e j w → Spends x old e j v → ⊥
spent_moves arts x old w v e j m s =
    not_both arts x (ready x old e) w e j s.key m s.is_craft (subst (λ (c : List Crafted). x.total ≤ crafts c s.key) (sym (ready_crafts x old e)) s.spent)

-- ---- a turn in which no node moves

-- what reaches a node is there
there_is : {X : Type 0} (f : List ℕ → X) (o : Option (List ℕ)) (i : X) → option_map f o ≡ Some i → not (is_some o) ≡ false
there_is f None i e = absurd cc
there_is f (Some bytes) i e = refl

none_missing : (arts : Arts) (x : Setting) (w : World) (n : NodeState) (e : Event) (i : Input) → input_of arts x w n e ≡ Some i → is_missing w e ≡ false
none_missing arts x w n (events.Pass u v number) i e = there_is (steps.Datagram u) (frame_in w.directions u v number) i e
none_missing arts x w n (events.Flip u v number back bit) i e =
    there_is (λ (bytes : List ℕ). steps.Datagram u (flipped back bit bytes)) (frame_in w.directions u v number) i e
none_missing arts x w n (events.Rel a b p) i e = refl
none_missing arts x w n (events.Krel a b count p) i e = refl
none_missing arts x w n (events.Prio a b c d f p) i e = refl
none_missing arts x w n (events.Take a b) i e = refl
none_missing arts x w n (events.KTake a b) i e = refl
none_missing arts x w n (events.TakePrio a) i e = refl
none_missing arts x w n (events.Tick a b) i e = refl
none_missing arts x w n (events.Weight a b c) i e = refl
none_missing arts x w n (events.Poll a b) i e = refl
none_missing arts x w n (events.Inject a b c) i e = refl
none_missing arts x w n (events.Craft a b c d) i e = refl
none_missing arts x w n (events.CraftStatus a b c d f g) i e = refl
none_missing arts x w n (events.Publish u' weights) i e = refl
none_missing arts x w n (events.CraftDocument c' v' key' version weights) i e = refl
none_missing arts x w n (events.Start a) i e = refl
none_missing arts x w n (events.Stop a) i e = refl

-- the event is no start and no stop, and comes to a node that runs
record IsMet (w : World) (e : Event) : Type 0 where
  other : IsOther e
  runs : is_running w.nodes (acting e) ≡ true
  comes : is_missing w e ≡ false

met_by_move : (arts : Arts) (x : Setting) (old w : World) (e : Event) (j : Entry) → Move arts x (ready x old e) e j w → IsMet old e
met_by_move arts x old w e j m = record {
  other = moves_other arts x (ready x old e) m.node e m.input m.reaches;
  runs = sym (ready_any x old e (acting e)) ∙ found_there (acting e) m.node (ready x old e).nodes m.is_there;
  comes =
      sym (missing (ready x old e).directions old.directions (ready_frames x old e) e) ∙ none_missing arts x (ready x old e) m.node e m.input m.reaches;
}
  where
    missing : (ds fs : List Direction) → ds ≡ fs → (e : Event)
        → is_missing (record (ready x old e) { directions = ds }) e ≡ is_missing (record old { directions = fs }) e
    missing ds fs same (events.Pass u v number) = ap (λ (gs : List Direction). not (is_some (frame_in gs u v number))) same
    missing ds fs same (events.Flip u v number back bit) = ap (λ (gs : List Direction). not (is_some (frame_in gs u v number))) same
    missing ds fs same (events.Rel a b p) = refl
    missing ds fs same (events.Krel a b count p) = refl
    missing ds fs same (events.Prio a b c d f p) = refl
    missing ds fs same (events.Take a b) = refl
    missing ds fs same (events.KTake a b) = refl
    missing ds fs same (events.TakePrio a) = refl
    missing ds fs same (events.Tick a b) = refl
    missing ds fs same (events.Weight a b c) = refl
    missing ds fs same (events.Poll a b) = refl
    missing ds fs same (events.Inject a b c) = refl
    missing ds fs same (events.Craft a b c d) = refl
    missing ds fs same (events.CraftStatus a b c d f g) = refl
    missing ds fs same (events.Publish u' weights) = refl
    missing ds fs same (events.CraftDocument c' v' key' version weights) = refl
    missing ds fs same (events.Start a) = refl
    missing ds fs same (events.Stop a) = refl

met_by_craft : (x : Setting) (old w : World) (e : Event) (j : Entry) → Spends x old e j w → IsMet old e
met_by_craft x old w e j s = record {
  other = craft_other s.key e s.is_craft;
  runs = s.runs;
  comes = of_craft (λ f. is_missing old f ≡ false) (λ c v key object. refl) (λ c v key version weights. refl) s.key e s.is_craft;
}

not_met : (arts : Arts) (x : Setting) (old w : World) (e : Event) (j : Entry) → IsMet old e → LifeCase arts x old e j w → ⊥
not_met arts x old w e j met (Starts_now u is start) = subst IsOther is met.other
not_met arts x old w e j met (Exhausts u is none) = subst IsOther is met.other
not_met arts x old w e j met (Stops u is stop) = subst IsOther is met.other
not_met arts x old w e j met (Nobody other down) =
    let runs = met.runs in let comes = met.comes in let wrong : false ≡ true = rw (runs, comes) at down.nobody in cc

one_life : (arts : Arts) (x : Setting) (old w v : World) (e : Event) (j : Entry) → Life arts x old e j w → Life arts x old e j v → w ≡ v
one_life arts x old w v (events.Start u) j (inl one) (inl two) = one.world ∙ sym two.world
one_life arts x old w v (events.Start u) j (inr one) (inr two) = one.world ∙ sym two.world
one_life arts x old w v (events.Start u) j (inl one) (inr two) = absurd (let left = one.left in let none = two.none_left in omega (arith, left, none))
one_life arts x old w v (events.Start u) j (inr one) (inl two) = absurd (let left = two.left in let none = one.none_left in omega (arith, left, none))
one_life arts x old w v (events.Stop u) j one two = one.world ∙ sym two.world
one_life arts x old w v (events.Rel a b p) j one two = one.world ∙ sym two.world
one_life arts x old w v (events.Krel a b count p) j one two = one.world ∙ sym two.world
one_life arts x old w v (events.Prio a b c d f p) j one two = one.world ∙ sym two.world
one_life arts x old w v (events.Take a b) j one two = one.world ∙ sym two.world
one_life arts x old w v (events.KTake a b) j one two = one.world ∙ sym two.world
one_life arts x old w v (events.TakePrio a) j one two = one.world ∙ sym two.world
one_life arts x old w v (events.Tick a b) j one two = one.world ∙ sym two.world
one_life arts x old w v (events.Weight a b c) j one two = one.world ∙ sym two.world
one_life arts x old w v (events.Poll a b) j one two = one.world ∙ sym two.world
one_life arts x old w v (events.Pass a b c) j one two = one.world ∙ sym two.world
one_life arts x old w v (events.Flip a b c d f) j one two = one.world ∙ sym two.world
one_life arts x old w v (events.Inject a b c) j one two = one.world ∙ sym two.world
one_life arts x old w v (events.Craft a b c d) j one two = one.world ∙ sym two.world
one_life arts x old w v (events.CraftStatus a b c d f g) j one two = one.world ∙ sym two.world
one_life arts x old w v (events.Publish u' weights) j one two = one.world ∙ sym two.world
one_life arts x old w v (events.CraftDocument c' v' key' version weights) j one two = one.world ∙ sym two.world

-- ---- any turn

-- the acting node keeps what a node keeps
kept_there : (arts : Arts) (x : Setting) (es : List Event) (js : List Entry) (u : NodeId) (n : NodeState) → NodeIs x (Good arts x es js) u n → IsKept arts n
kept_there arts x es js u n is =
    let Q : Kept → Type 0 = λ o. IsTrue (is_signed arts n.fixed o) in
    read_off x Q u n
    (node_weaker (sizes_at x (Good arts x es js) u) Q (λ o good. subst (λ (f : Fixed). IsTrue (is_signed arts f o)) (sym is.fixed) good.right) n is.holds)

pub one_turn : (arts : Arts) (x : Setting) (es : List Event) (js : List Entry) (old w v : World) (e : Event) (j : Entry) → SettingFits arts x
    → Carries x.topology.format arts → Clean arts x es js old → InRange x es e → (one : Turn arts x old e j w) (two : Turn arts x old e j v)
    → OneTurn w v (mover_in arts x old e j w one) (mover_in arts x old e j v two)
one_turn arts x es js old w v e j fits carries run range (Moves m) (Moves n) =
    let there = signs_there arts x es js old e fits carries run in
    let is = there.nodes (acting e) m.node m.is_there in
    by_moves arts carries.bodies x (ready x old e) w v e j m n (arts_fit arts x (Good arts x es js) (acting e) m.node fits is)
    (input_fits arts x es (ready x old e) m.node e m.input fits carries there.bytes range.fields m.reaches) (kept_there arts x es js (acting e) m.node is)
one_turn arts x es js old w v e j fits carries run range (Stays s) (Stays t) = record { world = s.world ∙ sym t.world; mover = refl }
one_turn arts x es js old w v e j fits carries run range (Lives on one) (Lives also two) = record { world = one_life arts x old w v e j one two; mover = refl }
one_turn arts x es js old w v e j fits carries run range (Moves m) (Stays t) = absurd (spent_moves arts x old w v e j m t)
one_turn arts x es js old w v e j fits carries run range (Stays s) (Moves n) = absurd (spent_moves arts x old v w e j n s)
one_turn arts x es js old w v e j fits carries run range (Moves m) (Lives on two) =
    absurd (not_met arts x old v e j (met_by_move arts x old w e j m) (life_case arts x old e j v two))
one_turn arts x es js old w v e j fits carries run range (Lives on one) (Moves n) =
    absurd (not_met arts x old w e j (met_by_move arts x old v e j n) (life_case arts x old e j w one))
one_turn arts x es js old w v e j fits carries run range (Stays s) (Lives on two) =
    absurd (not_met arts x old v e j (met_by_craft x old w e j s) (life_case arts x old e j v two))
one_turn arts x es js old w v e j fits carries run range (Lives on one) (Stays t) =
    absurd (not_met arts x old w e j (met_by_craft x old v e j t) (life_case arts x old e j w one))

-- ---- a run

snoc : {X : Type 0} (xs ys : List X) (x y : X) → xs ++ x ∷ [] ≡ ys ++ y ∷ [] → (xs ≡ ys) × (x ≡ y)
snoc [] [] x y e = (refl, cc)
snoc [] (b ∷ ys) x y e = absurd (let long = ap (λ zs. length zs) e in let more = length-append ys (y ∷ []) in omega (arith, long, more))
snoc (a ∷ xs) [] x y e = absurd (let long = ap (λ zs. length zs) e in let more = length-append xs (x ∷ []) in omega (arith, long, more))
snoc {X} (a ∷ xs) (b ∷ ys) x y e =
    let first : a ≡ b = cc in
    let others : xs ++ x ∷ [] ≡ ys ++ y ∷ [] = cc in
    let rest = snoc xs ys x y others in
    (ap₂ (λ (h : X) (t : List X). h ∷ t) first rest.0, rest.1)

-- the last turn of a run that has this past
record LastTurn (arts : Arts) (x : Setting) (es : List Event) (js : List Entry) (e : Event) (j : Entry) (v : World) (tells : List Happened) : Type 0 where
  old : World
  run : Clean arts x es js old
  turn : Turn arts x old e j v
  ends : tells ≡ past arts x es js old run ++ record { event = e; entry = j; mover = mover_in arts x old e j v turn } ∷ []

last_turn : (arts : Arts) (x : Setting) (es all : List Event) (js each : List Entry) (e : Event) (j : Entry) (v : World) (run : Clean arts x all each v)
    → all ≡ es ++ e ∷ [] → each ≡ js ++ j ∷ [] → LastTurn arts x es js e j v (past arts x all each v run)
last_turn arts x es all js each e j v Starts one two =
    absurd (let long = ap (λ (zs : List Event). length zs) one in let more = length-append es (e ∷ []) in omega (arith, long, more))
last_turn arts x es all js each e j v (Turned {es = es'} {js = js'} {old = old} {e = e'} {j = j'} run range turn unforged) one two =
    let p = snoc es' es e' e one in
    let q = snoc js' js j' j two in
    let tells = past arts x es' js' old run ++ record { event = e'; entry = j'; mover = mover_in arts x old e' j' v turn } ∷ [] in
    let here : LastTurn arts x es' js' e' j' v tells = record { old = old; run = run; turn = turn; ends = refl } in
    subst (λ (y : Entry). LastTurn arts x es js e y v tells) q.1
    (subst (λ (y : Event). LastTurn arts x es js y j' v tells) p.1
    (subst (λ (ys : List Entry). LastTurn arts x es ys e' j' v tells) q.0 (subst (λ (xs : List Event). LastTurn arts x xs js' e' j' v tells) p.0 here)))

none_left : (arts : Arts) (x : Setting) (es : List Event) (js : List Entry) (v : World) (run : Clean arts x es js v) → es ≡ []
    → (at_start x ≡ v) × ([] ≡ past arts x es js v run)
none_left arts x es js v Starts e = (refl, refl)
none_left arts x es js v (Turned {es = es'} {js = js'} {old = old} {e = e} {j = j} run range turn unforged) none =
    absurd (let long = ap (λ (zs : List Event). length zs) none in let more = length-append es' (e ∷ []) in omega (arith, long, more))

-- a turn of this mover
abbrev TurnOf : Arts → Setting → World → Event → Entry → World → Option NodeState → Type 0
TurnOf arts x old e j v mover = (turn : Turn arts x old e j v) × (mover_in arts x old e j v turn ≡ mover)

determined : (arts : Arts) (x : Setting) (es : List Event) (js : List Entry) (w v : World) → SettingFits arts x → Carries x.topology.format arts
    → (one : Clean arts x es js w) (two : Clean arts x es js v) → (w ≡ v) × (past arts x es js w one ≡ past arts x es js v two)
determined arts x es js w v fits carries Starts other = none_left arts x [] [] v other refl
determined arts x es js w v fits carries (Turned {es = es'} {js = js'} {old = old} {e = e} {j = j} run range turn unforged) other =
    let last = last_turn arts x es' (es' ++ e ∷ []) js' (js' ++ j ∷ []) e j v other refl refl in
    let before = determined arts x es' js' old last.old fits carries run last.run in
    let mover = mover_in arts x last.old e j v last.turn in
    let there : TurnOf arts x old e j v mover = subst (λ (y : World). TurnOf arts x y e j v mover) (sym before.0) (last.turn, refl) in
    let same = one_turn arts x es' js' old w v e j fits carries run range turn there.0 in
    let now : past arts x es' js' old run ++ record { event = e; entry = j; mover = mover_in arts x old e j w turn } ∷ []
    ≡ past arts x es' js' last.old last.run ++ record { event = e; entry = j; mover = mover } ∷ [] =
    ap₂ (λ (h : List Happened) (m : Option NodeState). h ++ record { event = e; entry = j; mover = m } ∷ []) before.1 (same.mover ∙ there.1) in
    (same.world, now ∙ sym last.ends)

pub runs_are_determined : RunsAreDetermined
runs_are_determined arts x es js w v fits carries one two = (determined arts x es js w v fits carries one two).0

pub past_is_determined : PastIsDetermined
past_is_determined arts x es js w v fits carries one two = (determined arts x es js w v fits carries one two).1
