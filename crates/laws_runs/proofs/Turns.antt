-- Each event in its range has a turn.
use Rattle.std.proofs.Common.{◌≡◌, ◌<◌, ◌≤◌, ℕ, zero, suc, Bool, true, false, cond, List, [], ◌∷◌, ◌++◌, length, Option, Some, None, option_map, refl, sym, ap}
use Rattle.std.proofs.Common.{subst, ◌∙◌, arith}
use Rattle.std.specs.Prelude.{IsTrue, ◌==◌, ◌||◌, is_some, nat_lt, not, slice_get, unwrap_or}
use Rattle.std.specs.Option.{option_and_then}
use Rattle.std.proofs.lemmas.Bool.{ltb-false, ltb-true}
use Rattle.std.proofs.lemmas.Bool.Decides.{nat_tests}
use Rattle.sp_base.specs.declared.id.NodeId.{NodeId}
use Rattle.sp_frame.specs.Sections.{with_document}
use Rattle.sp_epoch.specs.Numbers.{after_start, numbers_at, with_numbers}
use Rattle.sp_rules.specs.Arrivals.{after_datagram}
use Rattle.sp_rules.specs.Arts.{Arts}
use Rattle.sp_rules.specs.Documents.{after_publish}
use Rattle.sp_rules.specs.Masks.{Choice, IsChoice, graph_of}
use Rattle.sp_rules.specs.Node.{NodeState, start_effects}
use Rattle.sp_rules.specs.KflowSends.{after_send_krel, after_take_krel}
use Rattle.sp_rules.specs.Parts.{Fixed}
use Rattle.sp_rules.specs.Polls.{after_poll}
use Rattle.sp_rules.specs.Rel as rel
use Rattle.sp_rules.specs.Sends.{after_send_prio, after_send_rel, after_set_weight, after_take_prio, after_take_rel}
use Rattle.sp_rules.specs.Steps as steps
use Rattle.sp_rules.specs.Steps.{Input, NodeStep, Output}
use Rattle.sp_rules.specs.Ticks.{after_tick}
use Rattle.sp_rules.specs.declared.node.TheConstants.{MAX_CALLS}
use Rattle.sp_runs.specs.Inputs.{acting, crafted_contents, crafted_document, crafted_frame, flipped, input_of, last_weights, may_sign}
use Rattle.sp_runs.specs.Journals.{reply_word}
use Rattle.sp_runs.specs.Lives.{IsOther, comes_to_nobody, directions_missed, is_missing, next_start, ready}
use Rattle.sp_runs.specs.Runs.{AreFields, Clean, InRange, IsCraftOf, IsMade, Lives, Moves, Stays, crafted_after, directions_after, is_other, next_frame, polls}
use Rattle.sp_runs.specs.Settings.{Setting, SettingFits, StaysUp, fixed_at, is_correct, node_at_start}
use Rattle.sp_runs.specs.Worlds.{Crafted, Direction, World, crafts, frame_in, frames_in, is_running, node_in, with_node, without_node}
use Rattle.sp_journal.specs.declared.entry.Entry.{Entry}
use Rattle.sp_journal.specs.declared.entry.Reply.{Reply}
use Rattle.sp_journal.specs.declared.entry.Reply.TheVariants as replies
use Rattle.sp_schedule_crafts.specs.Objects.{body_of}
use Rattle.sp_schedule_events.specs.Documents.{list_in, with_list}
use Rattle.sp_schedule_events.specs.Lives.{is_started}
use Rattle.sp_schedule_events.specs.declared.event.Event.{Event}
use Rattle.sp_schedule_events.specs.declared.event.Event.TheVariants as events
use Rattle.laws_runs.specs.Premises.{Carries}
use Rattle.laws_runs.specs.Turns.{EachEventHasATurn, Happens, HaveChoices}
use Rattle.laws_runs.proofs.Counts.{frames_are_counted}
use Rattle.laws_runs.proofs.FullPlaces.{AreFull, places_are_full}
use Rattle.laws_runs.proofs.LifeCases.{Begins, Ends, Exhausts, Kind, Nobody, Other, Starts_now, Stops, kind_of, life_of}
use Rattle.laws_runs.proofs.Lists.{both}
use Rattle.laws_runs.proofs.Ready.{ready_any, ready_crafts, ready_frames}
use Rattle.laws_runs.proofs.Running.{found_there, there_found}
use Rattle.laws_runs.proofs.Signed.{signs_there}
use Rattle.laws_runs.proofs.There.{is_there}
use Rattle.laws_runs.proofs.Words.{each_reply_has_words}

-- ---- a node has a step for each input

-- and for a message that chooses its edges where there is a choice
abbrev Choosable : NodeState → Input → Type 0
Choosable n (steps.SendKrel m) = (choice : Choice) × IsChoice n.parts.weights (graph_of n.fixed.topology n.parts.weights) n.fixed.me m.dst m.paths choice
Choosable n (steps.SendPrio m) = (choice : Choice) × IsChoice n.parts.weights (graph_of n.fixed.topology n.parts.weights) n.fixed.me m.dst m.paths choice
Choosable n _ = Unit {0}

record Stepped (arts : Arts) (n : NodeState) (input : Input) : Type 0 where
  output : Output
  after : NodeState
  step : NodeStep arts n input output after

stepped : (arts : Arts) (n : NodeState) (input : Input) → Choosable n input → Stepped arts n input
stepped arts n (steps.Poll v) c = record { output = steps.poll_output arts n v; after = after_poll n v; step = (refl, refl) }
stepped arts n (steps.Datagram v bytes) c = record { output = steps.datagram_output arts n v bytes; after = after_datagram arts n v bytes; step = (refl, refl) }
stepped arts n (steps.Tick now) c = record { output = steps.tick_output arts n now; after = after_tick arts n now; step = (refl, refl) }
stepped arts n (steps.SendRel dst payload) c =
    record { output = steps.send_rel_output arts n dst payload; after = after_send_rel arts n dst payload; step = (refl, refl) }
stepped arts n (steps.SendPrio m) c = record {
  output = steps.send_prio_output arts n m c.0;
  after = after_send_prio arts n m c.0;
  step = record { choice = c.0; is_choice = λ free. c.1; output_is = refl; new_is = refl };
}
stepped arts n (steps.SetWeight v weight) c =
    record { output = steps.set_weight_output arts n v weight; after = after_set_weight arts n v weight; step = (refl, refl) }
stepped arts n (steps.SendKrel m) c = record {
  output = steps.send_krel_output arts n m c.0;
  after = after_send_krel arts n m c.0;
  step = record { choice = c.0; is_choice = λ free none. c.1; output_is = refl; new_is = refl };
}
stepped arts n (steps.TakeKrel src) c =
    record { output = steps.replied (steps.Payload (rel.oldest n.parts.kflow.flows src)); after = after_take_krel n src; step = (refl, refl) }
stepped arts n (steps.TakeRel src) c =
    record { output = steps.replied (steps.Payload (rel.oldest n.parts.rel src)); after = after_take_rel n src; step = (refl, refl) }
stepped arts n (steps.Publish document) c = record { output = steps.publish_output arts n document; after = after_publish arts n document; step = (refl, refl) }
stepped arts n steps.TakePrio c = record { output = steps.take_prio_output n; after = after_take_prio n; step = (refl, refl) }

-- ---- what reaches the node that acts

data Reached (arts : Arts) (x : Setting) (v : World) (n : NodeState) (e : Event) : Type 0 where
  Comes : (input : Input) → input_of arts x v n e ≡ Some input → Choosable n input → Reached arts x v n e
  Spent : (key : NodeId) → IsCraftOf key e → x.total ≤ crafts v.crafted key → Reached arts x v n e

there_is : (frame : Option (List ℕ)) → not (is_some frame) ≡ false → (bytes : List ℕ) × (frame ≡ Some bytes)
there_is None here = absurd (let wrong : true ≡ false = here in cc)
there_is (Some bytes) here = (bytes, refl)

-- in a world of the frames of another, in which none is missing
reached : (arts : Arts) (x : Setting) (es : List Event) (w v : World) (n : NodeState) (e : Event) → v.directions ≡ w.directions
    → AreFields x es e → IsOther e → is_missing w e ≡ false
    → ((d : NodeId) (paths : ℕ) (s : NodeId) → acting e ≡ s → IsTrue (is_correct x s) → IsTrue (is_other x s d)
    → (choice : Choice) × IsChoice n.parts.weights (graph_of n.fixed.topology n.parts.weights) n.fixed.me d paths choice)
    → Reached arts x v n e
reached arts x es w v n (events.Rel s d payload) same range other here choices = Comes (steps.SendRel d payload) refl tt
reached arts x es w v n (events.Prio s d p expiry paths payload) same range other here choices =
    Comes _ refl (choices d paths s refl range.0 range.1)
reached arts x es w v n (events.Krel s d paths payload) same range other here choices = Comes _ refl (choices d paths s refl range.1 range.2)
reached arts x es w v n (events.KTake d s) same range other here choices = Comes (steps.TakeKrel s) refl tt
reached arts x es w v n (events.Take d s) same range other here choices = Comes (steps.TakeRel s) refl tt
reached arts x es w v n (events.TakePrio d) same range other here choices = Comes steps.TakePrio refl tt
reached arts x es w v n (events.Tick u now) same range other here choices = Comes (steps.Tick now) refl tt
reached arts x es w v n (events.Weight a b weight) same range other here choices = Comes (steps.SetWeight b weight) refl tt
reached arts x es w v n (events.Poll a b) same range other here choices = Comes (steps.Poll b) refl tt
reached arts x es w v n (events.Pass a b k) same range other here choices =
    let it = there_is (frame_in w.directions a b k) here in
    let made : frame_in v.directions a b k ≡ Some it.0 = ap (λ (ds : List Direction). frame_in ds a b k) same ∙ it.1 in
    Comes (steps.Datagram a it.0) (ap (option_map (steps.Datagram a)) made) tt
reached arts x es w v n (events.Flip a b k back bit) same range other here choices =
    let it = there_is (frame_in w.directions a b k) here in
    let made : frame_in v.directions a b k ≡ Some it.0 = ap (λ (ds : List Direction). frame_in ds a b k) same ∙ it.1 in
    Comes (steps.Datagram a (flipped back bit it.0)) (ap (option_map (λ bytes. steps.Datagram a (flipped back bit bytes))) made) tt
reached arts x es w v n (events.Inject a b bytes) same range other here choices = Comes (steps.Datagram a bytes) refl tt
reached arts x es w v n (events.Craft c u key object) same range other here choices = go (nat_lt (crafts v.crafted key) x.total) refl
  where
    bytes : List ℕ
    bytes = crafted_frame arts n c (crafted_contents arts x v.crafted n key (body_of object))

    go : (t : Bool) → nat_lt (crafts v.crafted key) x.total ≡ t → Reached arts x v n (events.Craft c u key object)
    go true some = Comes (steps.Datagram c bytes) (ap (λ t. cond t (Some (steps.Datagram c bytes)) None) some) tt
    go false none = Spent key refl (ltb-false (crafts v.crafted key) x.total none)
reached arts x es w v n (events.CraftStatus c u s d base have) same range other here choices = Comes _ refl tt
reached arts x es w v n (events.Publish u weights) same range other here choices = Comes _ refl tt
reached arts x es w v n (events.CraftDocument c u key version weights) same range other here choices = go (key == 0) refl (nat_lt count x.total) refl
  where
    bytes : List ℕ
    bytes = crafted_frame arts n c (with_document (crafted_document arts x v.crafted key version (unwrap_or weights (last_weights x v.published))))

    count : ℕ
    count = crafts v.crafted (record { 0 = key })

    comes : may_sign x v.crafted key ≡ true → Reached arts x v n (events.CraftDocument c u key version weights)
    comes may = Comes (steps.Datagram c bytes) (ap (λ t. cond t (Some (steps.Datagram c bytes)) None) may) tt

    go : (a : Bool) → (key == 0) ≡ a → (b : Bool) → nat_lt count x.total ≡ b → Reached arts x v n (events.CraftDocument c u key version weights)
    go true admin b left = comes (rw admin refl)
    go false node true some = comes (rw (node, some) refl)
    go false node false none = Spent (record { 0 = key }) (refl, grind (arith, nat_tests, node)) (ltb-false count x.total none)
reached arts x es w v n (events.Start u) same range other here choices = absurd other
reached arts x es w v n (events.Stop u) same range other here choices = absurd other

-- ---- without epochs each event comes to a node

there_at : (frames : List (Option (List ℕ))) (i : ℕ) → i < length frames → (frame : Option (List ℕ)) × (slice_get frames i ≡ Some frame)
there_at [] i low = absurd (omega (arith, low))
there_at (f ∷ frames) zero low = (f, refl)
there_at (f ∷ frames) (suc i) low = there_at frames i (omega (arith, low))

-- a frame of a number that was made is there
frame_there : (es : List Event) (ds : List Direction) (u v : NodeId) (number : ℕ) → AreFull ds
    → length (frames_in ds u v) ≡ polls es u v → IsMade es u v number → not (is_some (frame_in ds u v number)) ≡ false
frame_there es ds u v zero full count made = absurd (let least = made.0 in omega (arith, least))
frame_there es ds u v (suc before) full count made = go it.0 it.1
  where
    it : (frame : Option (List ℕ)) × (slice_get (frames_in ds u v) before ≡ Some frame)
    it = there_at (frames_in ds u v) before (let most = made.1 in omega (arith, most, count))

    go : (frame : Option (List ℕ)) → slice_get (frames_in ds u v) before ≡ Some frame → not (is_some (frame_in ds u v (suc before))) ≡ false
    go None at = absurd (full u v before at)
    go (Some bytes) at = ap (λ (f : Option (Option (List ℕ))). not (is_some (option_and_then (λ (frame : Option (List ℕ)). frame) f))) at

record IsBrought (w : World) (e : Event) : Type 0 where
  other : IsOther e
  here : is_missing w e ≡ false

brought : (x : Setting) (es : List Event) (w : World) (e : Event) → x.epochs ≡ false → InRange x es e → AreFull w.directions
    → ((u v : NodeId) → length (frames_in w.directions u v) ≡ polls es u v) → IsBrought w e
brought x es w (events.Rel s d payload) off range full count = record { other = tt; here = refl }
brought x es w (events.Prio s d p expiry paths payload) off range full count = record { other = tt; here = refl }
brought x es w (events.Krel s d paths payload) off range full count = record { other = tt; here = refl }
brought x es w (events.KTake d s) off range full count = record { other = tt; here = refl }
brought x es w (events.Take d s) off range full count = record { other = tt; here = refl }
brought x es w (events.TakePrio d) off range full count = record { other = tt; here = refl }
brought x es w (events.Tick u now) off range full count = record { other = tt; here = refl }
brought x es w (events.Weight u v weight) off range full count = record { other = tt; here = refl }
brought x es w (events.Poll u v) off range full count = record { other = tt; here = refl }
brought x es w (events.Pass u v k) off range full count =
    record { other = tt; here = frame_there es w.directions u v k full (count u v) range.fields.3 }
brought x es w (events.Flip u v k back bit) off range full count =
    record { other = tt; here = frame_there es w.directions u v k full (count u v) range.fields.3 }
brought x es w (events.Inject u v bytes) off range full count = record { other = tt; here = refl }
brought x es w (events.Craft c v key object) off range full count = record { other = tt; here = refl }
brought x es w (events.CraftStatus c v s d base have) off range full count = record { other = tt; here = refl }
brought x es w (events.Publish u weights) off range full count = record { other = tt; here = refl }
brought x es w (events.CraftDocument c v key version weights) off range full count = record { other = tt; here = refl }
brought x es w (events.Start u) off range full count =
    absurd (let wrong : false ≡ true = sym off ∙ (both x.epochs (not (is_started es u.0)) range.may).0 in cc)
brought x es w (events.Stop u) off range full count =
    absurd (let wrong : false ≡ true = sym off ∙ (both x.epochs (is_started es u.0) range.may).0 in cc)

-- who acts is correct
acts : (x : Setting) (es : List Event) (e : Event) → AreFields x es e → IsTrue (is_correct x (acting e))
acts x es (events.Rel s d payload) range = range.0
acts x es (events.Prio s d p expiry paths payload) range = range.0
acts x es (events.Krel s d paths payload) range = range.1
acts x es (events.KTake d s) range = range.1
acts x es (events.Take d s) range = range.0
acts x es (events.TakePrio d) range = range
acts x es (events.Tick u now) range = range.0
acts x es (events.Weight u v weight) range = range.0
acts x es (events.Poll u v) range = range.0
acts x es (events.Pass u v k) range = range.1
acts x es (events.Flip u v k back bit) range = range.1
acts x es (events.Inject u v bytes) range = range.0
acts x es (events.Craft c v key object) range = range.0
acts x es (events.CraftStatus c v s d base have) range = range.0
acts x es (events.Publish u weights) range = range.0
acts x es (events.CraftDocument c v key version weights) range = range.0
acts x es (events.Start u) range = range.0
acts x es (events.Stop u) range = range

-- ---- the turn of an event that comes to a node

comes : (arts : Arts) (x : Setting) (es : List Event) (js : List Entry) (w : World) → SettingFits arts x → Carries x.topology.format arts
    → HaveChoices x → Clean arts x es js w → length es < MAX_CALLS → (e : Event) → InRange x es e → IsOther e → is_missing w e ≡ false
    → is_running w.nodes (acting e) ≡ true → Happens arts x es w e
comes arts x es js w fits carries choices run few e range other here runs =
    go (reached arts x es w v n e (ready_frames x w e) range.fields other here choose)
  where
    v : World
    v = ready x w e

    there : (n : NodeState) × (node_in v.nodes (acting e) ≡ Some n)
    there = there_found (acting e) v.nodes (ready_any x w e (acting e) ∙ runs)

    n : NodeState
    n = there.0

    choose : (d : NodeId) (paths : ℕ) (s : NodeId) → acting e ≡ s → IsTrue (is_correct x s) → IsTrue (is_other x s d)
        → (choice : Choice) × IsChoice n.parts.weights (graph_of n.fixed.topology n.parts.weights) n.fixed.me d paths choice
    choose d paths s me correct other =
        let fixed = ((signs_there arts x es js w e fits carries run).nodes (acting e) n there.1).fixed in
        let c = choices n.parts.weights s d paths correct other in (
          c.0,
          subst (λ (f : Fixed). IsChoice n.parts.weights (graph_of f.topology n.parts.weights) f.me d paths c.0) (sym fixed)
              (subst (λ u. IsChoice n.parts.weights (graph_of x.topology n.parts.weights) u d paths c.0) (sym me) c.1),
        )

    turn : (input : Input) → input_of arts x v n e ≡ Some input → (s : Stepped arts n input) → (o : Option Reply)
        → reply_word x (next_frame v e) s.output.reply ≡ o → Happens arts x es w e
    turn input reaches s None words =
        let has = each_reply_has_words arts x es js w fits carries run few e n s.after input s.output range there.1 reaches s.step in
        absurd (has (next_frame v e) words)
    turn input reaches s (Some reply) words = record {
      entry = record { reply = reply; effects = s.output.effects };
      new = record {
        keys = v.keys;
        nodes = with_node v.nodes (acting e) s.after;
        directions = directions_after v.directions e s.output.reply;
        crafted = crafted_after v.crafted e;
        published = with_list v.published (list_in e);
      };
      turn = Moves (record {
        node = n;
        is_there = there.1;
        input = input;
        reaches = reaches;
        output = s.output;
        after = s.after;
        step = s.step;
        journal = record { reply = words; effects = refl };
        world = refl;
      });
    }

    go : Reached arts x v n e → Happens arts x es w e
    go (Comes input reaches c) = turn input reaches (stepped arts n input c) _ refl
    go (Spent key craft spent) = record {
      entry = record { reply = replies.Spent x.total; effects = [] };
      new = w;
      turn = Stays (record {
        key = key;
        is_craft = craft;
        runs = runs;
        spent = subst (λ (crafted : List Crafted). x.total ≤ crafts crafted key) (ready_crafts x w e) spent;
        reply = refl;
        effects = refl;
        world = refl;
      });
    }

-- ---- the turn of a start, of a stop, and of what comes to nobody

begins : (arts : Arts) (x : Setting) (es : List Event) (w : World) (e : Event) (u : NodeId) → x.epochs ≡ true → e ≡ events.Start u
    → Happens arts x es w e
begins arts x es w e u on is = go (nat_lt (numbers_at w.keys u).bound x.total) refl
  where
    go : (t : Bool) → nat_lt (numbers_at w.keys u).bound x.total ≡ t → Happens arts x es w e
    go true left =
        let next = next_start x w u in
        record {
          entry = record { reply = replies.Started next.boot next.index; effects = start_effects arts (fixed_at x u next.boot) };
          new = record w {
            keys = with_numbers w.keys u (after_start x.total (numbers_at w.keys u));
            nodes = w.nodes ++ node_at_start arts x u next ∷ [];
          };
          turn = Lives on (life_of arts x w e _ _ (Starts_now u is (record {
            left = ltb-true (numbers_at w.keys u).bound x.total left;
            reply = refl;
            effects = refl;
            world = refl;
          })));
        }
    go false none = record {
      entry = record { reply = replies.Exhausted (numbers_at w.keys u).bound; effects = [] };
      new = w;
      turn = Lives on (life_of arts x w e _ _ (Exhausts u is (record {
        none_left = ltb-false (numbers_at w.keys u).bound x.total none;
        reply = refl;
        effects = refl;
        world = refl;
      })));
    }

ends : (arts : Arts) (x : Setting) (es : List Event) (w : World) (e : Event) (u : NodeId) → x.epochs ≡ true → e ≡ events.Stop u
    → Happens arts x es w e
ends arts x es w e u on is = record {
  entry = record { reply = replies.Stopped; effects = [] };
  new = record (ready x w (events.Stop u)) { nodes = without_node (ready x w (events.Stop u)).nodes u };
  turn = Lives on (life_of arts x w e _ _ (Stops u is (record { reply = refl; effects = refl; world = refl })));
}

misses : (arts : Arts) (x : Setting) (es : List Event) (w : World) (e : Event) → x.epochs ≡ true → IsOther e → comes_to_nobody w e ≡ true
    → Happens arts x es w e
misses arts x es w e on other nobody = record {
  entry = record { reply = replies.Down; effects = [] };
  new = record w { directions = directions_missed w.directions e; published = with_list w.published (list_in e) };
  turn = Lives on (life_of arts x w e _ _ (Nobody other (record { nobody = nobody; reply = refl; effects = refl; world = refl })));
}

-- ---- each event

pub each_event_has_a_turn : EachEventHasATurn
each_event_has_a_turn arts x es js w fits carries choices run few e range = go x.epochs refl
  where
    somebody : IsOther e → is_missing w e ≡ false → is_running w.nodes (acting e) ≡ true → Happens arts x es w e
    somebody = comes arts x es js w fits carries choices run few e range

    other_turn : x.epochs ≡ true → IsOther e → (runs missing : Bool) → is_running w.nodes (acting e) ≡ runs → is_missing w e ≡ missing
        → Happens arts x es w e
    other_turn on other false missing stopped is = misses arts x es w e on other (ap (λ r. not r || is_missing w e) stopped)
    other_turn on other true true runs gone = misses arts x es w e on other (ap (λ r. not r || is_missing w e) runs ∙ gone)
    other_turn on other true false runs here = somebody other here runs

    live : x.epochs ≡ true → Kind e → Happens arts x es w e
    live on (Begins u is) = begins arts x es w e u on is
    live on (Ends u is) = ends arts x es w e u on is
    live on (Other other) = other_turn on other (is_running w.nodes (acting e)) (is_missing w e) refl refl

    go : (on : Bool) → x.epochs ≡ on → Happens arts x es w e
    go true on = live on (kind_of e)
    go false off =
        let stays : StaysUp arts x = record { fits = fits; plain = off } in
        let it = brought x es w e off range (places_are_full arts x es js w off run) (frames_are_counted arts x es js w run).frames in
        let there = is_there arts x es js w stays run (acting e) (acts x es e range.fields) in
        somebody it.other it.here (found_there (acting e) there.0 w.nodes there.1)

-- without epochs each event comes to a node
pub epochs_are_on : (arts : Arts) (x : Setting) (es : List Event) (js : List Entry) (w : World) (e : Event) → SettingFits arts x → Clean arts x es js w
    → InRange x es e
    → comes_to_nobody w e ≡ true → x.epochs ≡ true
epochs_are_on arts x es js w e fits run range nobody = go x.epochs refl
  where
    go : (on : Bool) → x.epochs ≡ on → x.epochs ≡ true
    go true on = on
    go false off =
        let stays : StaysUp arts x = record { fits = fits; plain = off } in
        let it = brought x es w e off range (places_are_full arts x es js w off run) (frames_are_counted arts x es js w run).frames in
        let there = is_there arts x es js w stays run (acting e) (acts x es e range.fields) in
        let somebody : comes_to_nobody w e ≡ false = ap (λ r. not r || is_missing w e) (found_there (acting e) there.0 w.nodes there.1) ∙ it.here in
        absurd (let wrong : true ≡ false = sym nobody ∙ somebody in cc)
