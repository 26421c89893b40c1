-- What a call of a node among all is in the world: a turn in which nothing is forged, or in which something is.
use Rattle.std.proofs.Common.{◌≡◌, ℕ, Bool, true, false, cond, List, [], Option, None, Some, option_map, refl, sym, ap, ◌∙◌, subst, eq-eqb, inr}
use Rattle.std.specs.List.{list_any}
use Rattle.std.proofs.lemmas.Option.{same_Some}
use Rattle.sp_base.specs.declared.id.NodeId.{NodeId}
use Rattle.sp_journal.specs.declared.entry.Entry.{Entry}
use Rattle.sp_journal.specs.declared.entry.Reply.TheVariants as replies
use Rattle.laws_runs_format.specs.Arts.{arts_of}
use Rattle.sp_node_format.specs.Format.{format_of}
use Rattle.sp_rules.specs.Node.{NodeState, extended}
use Rattle.sp_rules.specs.Parts.{Fixed}
use Rattle.sp_rules.specs.Steps.{Datagram, Frame, Input, NodeStep, Output, Poll, Publish, Reply, SendKrel, SendPrio, SendRel, SetWeight, TakeKrel, TakePrio}
use Rattle.sp_rules.specs.Steps.{TakeRel, Tick, replied}
use Rattle.sp_runs.specs.Forgery.{forged, has_forged_tag}
use Rattle.sp_runs.specs.Inputs.{acting, flipped, input_of}
use Rattle.sp_runs.specs.Journals.{Says}
use Rattle.sp_runs.specs.Runs as runs
use Rattle.sp_runs.specs.Lives.{IsDown, IsOther, Life, comes_to_nobody, is_missing, is_short, ready, reserved, reserved_if}
use Rattle.sp_runs.specs.Runs.{crafted_after, directions_after, next_frame}
use Rattle.sp_runs.specs.Scenarios.{setting_of}
use Rattle.sp_runs.specs.Settings.{Setting}
use Rattle.sp_runs.specs.Worlds.{Crafted, Direction, World, frame_in, is_me, node_in, with_frame, with_node, without_node}
use Rattle.sp_schedule_events.specs.Documents.{list_in, with_list}
use Rattle.sp_schedule_events.specs.declared.published.Published.{Published}
use Rattle.sp_schedule_events.specs.declared.event.Event.{Event}
use Rattle.sp_schedule_events.specs.declared.event.Event.TheVariants as events
use Rattle.sp_schedule_events.specs.declared.scenario.Scenario.{Scenario}
use Rattle.sp_epoch.specs.Numbers.{next_bound, numbers_at}
use Rattle.sp_keystate.specs.declared.numbers.Numbers.{Numbers}
use Rattle.laws_runs.proofs.LifeCases.{Nobody, life_of}
use Rattle.laws_runs.proofs.Ready.{As_was, Extended, Readied, ready_crafts, ready_frames, ready_published, ready_with, was_there}
use Rattle.laws_runs.proofs.Tables.{node_is}
use Rattle.laws_runs.proofs.Turns.{epochs_are_on}
use Rattle.sp_world_steps.proofs.Without.{without_is_same}
use Rattle.sp_world.proofs.Standing.{are_filed, asked_reaches, can_hear, each, fits, not_off}
use Rattle.sp_adversary.specs.Crafters.{Crafters}
use Rattle.sp_world.specs.Arrivals.{Arrives, CanHear}
use Rattle.sp_world.specs.Documents.{IsHanded}
use Rattle.sp_world.specs.Past.{IsUndone}
use Rattle.sp_world.specs.Scenes.{AreFiled, Scene, with_crafted, world_in}
use Rattle.sp_world_steps.specs.Polls.{IsPolled}
use Rattle.sp_world.specs.Stands.{Comes, ComesTo, ComesToOne, IsArrival, IsMoved, IsSpent, IsTold, Stands, sender}
use Rattle.sp_world_steps.specs.Polls.{world_of}
use Rattle.sp_world.specs.declared.acts.Done.{Done}
use Rattle.sp_world.specs.declared.acts.Done.TheVariants as dones
use Rattle.sp_world.specs.declared.bytes.Came.TheVariants as cames
use Rattle.sp_world_steps.specs.Asks.{asked}
use Rattle.sp_world_steps.specs.Members.{AskedAmong}

-- the parts of two worlds are the same
same_parts : (keys : List Numbers) (a b : List NodeState) (c d : List Direction) (f g : List Crafted) (p q : Published) → a ≡ b → c ≡ d → f ≡ g → p ≡ q
    → world_of keys a c f p ≡ world_of keys b d g q
same_parts keys a b c d f g p q one two three four = rw (one, two, three, four) refl

-- ---- what is asked

-- it makes no frame
asked_is_no_poll : (w : World) (e : Event) (document : List ℕ) (input : Input) → asked document e ≡ Some input → next_frame w e ≡ 0
asked_is_no_poll w (events.Rel s d payload) document input is = refl
asked_is_no_poll w (events.Krel s d paths payload) document input is = refl
asked_is_no_poll w (events.Prio s d prio expiry paths payload) document input is = refl
asked_is_no_poll w (events.Take d s) document input is = refl
asked_is_no_poll w (events.KTake d s) document input is = refl
asked_is_no_poll w (events.TakePrio d) document input is = refl
asked_is_no_poll w (events.Tick u now) document input is = refl
asked_is_no_poll w (events.Weight u v weight) document input is = refl
asked_is_no_poll w (events.Poll u v) document input is = absurd (cc)
asked_is_no_poll w (events.Pass u v number) document input is = refl
asked_is_no_poll w (events.Flip u v number back bit) document input is = refl
asked_is_no_poll w (events.Inject u v bytes) document input is = refl
asked_is_no_poll w (events.Craft c v key body) document input is = refl
asked_is_no_poll w (events.CraftStatus c v s d base have) document input is = refl
asked_is_no_poll w (events.CraftDocument c v key version weights) document input is = absurd (cc)
asked_is_no_poll w (events.Publish u weights) document input is = refl
asked_is_no_poll w (events.Start u) document input is = absurd (cc)
asked_is_no_poll w (events.Stop u) document input is = absurd (cc)

asked_keeps_frames : (ds : List Direction) (e : Event) (document : List ℕ) (input : Input) (reply : Reply) → asked document e ≡ Some input
    → directions_after ds e reply ≡ ds
asked_keeps_frames ds (events.Rel s d payload) document input reply is = refl
asked_keeps_frames ds (events.Krel s d paths payload) document input reply is = refl
asked_keeps_frames ds (events.Prio s d prio expiry paths payload) document input reply is = refl
asked_keeps_frames ds (events.Take d s) document input reply is = refl
asked_keeps_frames ds (events.KTake d s) document input reply is = refl
asked_keeps_frames ds (events.TakePrio d) document input reply is = refl
asked_keeps_frames ds (events.Tick u now) document input reply is = refl
asked_keeps_frames ds (events.Weight u v weight) document input reply is = refl
asked_keeps_frames ds (events.Poll u v) document input reply is = absurd (cc)
asked_keeps_frames ds (events.Pass u v number) document input reply is = refl
asked_keeps_frames ds (events.Flip u v number back bit) document input reply is = refl
asked_keeps_frames ds (events.Inject u v bytes) document input reply is = refl
asked_keeps_frames ds (events.Craft c v key body) document input reply is = refl
asked_keeps_frames ds (events.CraftStatus c v s d base have) document input reply is = refl
asked_keeps_frames ds (events.CraftDocument c v key version weights) document input reply is = refl
asked_keeps_frames ds (events.Publish u weights) document input reply is = refl
asked_keeps_frames ds (events.Start u) document input reply is = absurd (cc)
asked_keeps_frames ds (events.Stop u) document input reply is = absurd (cc)

asked_crafts_none : (crafted : List Crafted) (e : Event) (document : List ℕ) (input : Input) → asked document e ≡ Some input → crafted_after crafted e ≡ crafted
asked_crafts_none crafted (events.Rel s d payload) document input is = refl
asked_crafts_none crafted (events.Krel s d paths payload) document input is = refl
asked_crafts_none crafted (events.Prio s d prio expiry paths payload) document input is = refl
asked_crafts_none crafted (events.Take d s) document input is = refl
asked_crafts_none crafted (events.KTake d s) document input is = refl
asked_crafts_none crafted (events.TakePrio d) document input is = refl
asked_crafts_none crafted (events.Tick u now) document input is = refl
asked_crafts_none crafted (events.Weight u v weight) document input is = refl
asked_crafts_none crafted (events.Poll u v) document input is = refl
asked_crafts_none crafted (events.Pass u v number) document input is = refl
asked_crafts_none crafted (events.Flip u v number back bit) document input is = refl
asked_crafts_none crafted (events.Inject u v bytes) document input is = refl
asked_crafts_none crafted (events.CraftStatus c v s d base have) document input is = refl
asked_crafts_none crafted (events.CraftDocument c v key version weights) document input is = absurd (cc)
asked_crafts_none crafted (events.Publish u weights) document input is = refl
asked_crafts_none crafted (events.Start u) document input is = refl
asked_crafts_none crafted (events.Stop u) document input is = refl
asked_crafts_none crafted (events.Craft c v key body) document input is = absurd (cc)

no_tag : (x : Setting) (w : World) (n : NodeState) (e : Event) (document : List ℕ) (input : Input) → asked document e ≡ Some input
    → has_forged_tag (arts_of x) x w n input ≡ false
no_tag x w n (events.Rel s d payload) document input is =
    subst (λ (i : Input). has_forged_tag (arts_of x) x w n i ≡ false) (same_Some (SendRel d payload) input is) refl
no_tag x w n (events.Prio s d prio expiry paths payload) document input is =
    subst (λ (i : Input). has_forged_tag (arts_of x) x w n i ≡ false)
    (same_Some (SendPrio (record { dst = d; prio = prio; expiry = expiry; paths = paths; payload = payload })) input is) refl
no_tag x w n (events.Krel s d paths payload) document input is =
    subst (λ (i : Input). has_forged_tag (arts_of x) x w n i ≡ false) (same_Some (SendKrel (record { dst = d; paths = paths; payload = payload })) input is) refl
no_tag x w n (events.KTake d s) document input is = subst (λ (i : Input). has_forged_tag (arts_of x) x w n i ≡ false) (same_Some (TakeKrel s) input is) refl
no_tag x w n (events.Take d s) document input is = subst (λ (i : Input). has_forged_tag (arts_of x) x w n i ≡ false) (same_Some (TakeRel s) input is) refl
no_tag x w n (events.TakePrio d) document input is = subst (λ (i : Input). has_forged_tag (arts_of x) x w n i ≡ false) (same_Some TakePrio input is) refl
no_tag x w n (events.Tick u now) document input is = subst (λ (i : Input). has_forged_tag (arts_of x) x w n i ≡ false) (same_Some (Tick now) input is) refl
no_tag x w n (events.Weight u v weight) document input is =
    subst (λ (i : Input). has_forged_tag (arts_of x) x w n i ≡ false) (same_Some (SetWeight v weight) input is) refl
no_tag x w n (events.Poll u v) document input is = absurd (cc)
no_tag x w n (events.Pass u v number) document input is = absurd (cc)
no_tag x w n (events.Flip u v number back bit) document input is = absurd (cc)
no_tag x w n (events.Inject u v bytes) document input is = absurd (cc)
no_tag x w n (events.Craft c v key body) document input is = absurd (cc)
no_tag x w n (events.CraftStatus c v s d base have) document input is = absurd (cc)
no_tag x w n (events.CraftDocument c v key version weights) document input is = absurd (cc)
no_tag x w n (events.Publish u weights) document input is =
    subst (λ (i : Input). has_forged_tag (arts_of x) x w n i ≡ false) (same_Some (Publish document) input is) refl
no_tag x w n (events.Start u) document input is = absurd (cc)
no_tag x w n (events.Stop u) document input is = absurd (cc)

nothing_forged : (x : Setting) (es : List Event) (js : List Entry) (w : World) (n : NodeState) (input : Input) (output : Output)
    → has_forged_tag (arts_of x) x w n input ≡ false → output.answered ≡ [] → output.adopted ≡ None → forged (arts_of x) x es js w n input output ≡ None
nothing_forged x es js w n input output untagged none nothing = rw (untagged, none, nothing) refl

-- ---- a move in the world in which the node acts is a turn

pub moved_is_told : (x : Setting) (es : List Event) (js : List Entry) (old new : World) (e : Event) (entry : Entry)
    → IsMoved x es js (ready x old e) e entry new
    → IsTold x es js old e entry new
moved_is_told x es js old new e entry m = record { turn = runs.Moves m.move; unforged = m.unforged }

-- the arts are those of the node's own topology
stepped_there : (s : Scenario) (es : List Event) (js : List Entry) (w : World) (e : Event) → Stands s es js w e
    → (u : NodeId) (n after : NodeState) (input : Input) (output : Output)
    → node_in (ready (setting_of s) w e).nodes u ≡ Some n → NodeStep (format_of n.fixed) n input output after
    → NodeStep (arts_of (setting_of s)) n input output after
stepped_there s es js w e st u n after input output at step =
    subst (λ (f : Fixed). NodeStep (format_of f) n input output after) (each s es js w e st u n at).fixed step

pub asked_is_told : (s : Scenario) (es : List Event) (js : List Entry) (w : World) (after : List NodeState) (e : Event) (document : List ℕ) (entry : Entry)
    → Stands s es js w e → IsHanded (setting_of s) (ready (setting_of s) w e).published e document
    → AskedAmong (ready (setting_of s) w e).nodes e document entry after
    → IsTold (setting_of s) es js w e entry
    (record (ready (setting_of s) w e) { nodes = after; published = with_list (ready (setting_of s) w e).published (list_in e) })
asked_is_told s es js w after e document entry st handed a =
    let v = ready (setting_of s) w e in
    let last = with_list v.published (list_in e) in
    let input = a.gave.input in
    let output = a.gave.gave.output in
    moved_is_told (setting_of s) es js w (record v { nodes = after; published = last }) e entry (record {
      move = record {
        node = a.old;
        is_there = a.is_there;
        input = input;
        reaches = asked_reaches (setting_of s) es v a.old e document input handed a.gave.asks;
        output = output;
        after = a.new;
        step = stepped_there s es js w e st (acting e) a.old a.new input output a.is_there a.gave.gave.step;
        journal = subst (λ (k : ℕ). Says (setting_of s) k output entry) (sym (asked_is_no_poll v e document input a.gave.asks)) (a.gave.gave.tells s);
        world = same_parts v.keys after (with_node v.nodes (acting e) a.new) v.directions (directions_after v.directions e output.reply) v.crafted
            (crafted_after v.crafted e) last last a.nodes_are (sym (asked_keeps_frames v.directions e document input output.reply a.gave.asks))
            (sym (asked_crafts_none v.crafted e document input a.gave.asks)) refl;
      };
      unforged = nothing_forged (setting_of s) es js v a.old input output (no_tag (setting_of s) v a.old e document input a.gave.asks) a.gave.gave.no_object
          a.gave.gave.none_adopted;
    })

-- ---- a poll

pub polled_is_told : (s : Scenario) (es : List Event) (js : List Entry) (w : World) (after : List NodeState) (kept : List Direction) (e : Event) (u v : NodeId)
    (entry : Entry)
    → Stands s es js w e → e ≡ events.Poll u v → IsPolled (ready (setting_of s) w e).nodes (ready (setting_of s) w e).directions u v entry after kept
    → IsTold (setting_of s) es js w e entry (record (ready (setting_of s) w e) { nodes = after; directions = kept })
polled_is_told s es js w after kept e u v entry st is p =
    let there = ready (setting_of s) w e in
    moved_is_told (setting_of s) es js w (record there { nodes = after; directions = kept }) e entry
    (subst (λ (f : Event). IsMoved (setting_of s) es js there f entry (record there { nodes = after; directions = kept })) (sym is) (record {
      move = record {
        node = p.old;
        is_there = p.is_there;
        input = Poll v;
        reaches = refl;
        output = replied (Frame p.bytes);
        after = p.new;
        step = stepped_there s es js w e st u p.old p.new (Poll v) (replied (Frame p.bytes)) p.is_there p.step;
        journal = p.tells s;
        world = same_parts there.keys after (with_node there.nodes u p.new) kept (with_frame there.directions u v (Some p.bytes)) there.crafted there.crafted
            there.published there.published p.nodes_are p.kept_are refl refl;
      };
      unforged = refl;
    }))

-- ---- bytes that come

arrival_is_no_poll : (w : World) (e : Event) → IsArrival e → next_frame w e ≡ 0
arrival_is_no_poll w (events.Pass u v number) is = refl
arrival_is_no_poll w (events.Flip u v number back bit) is = refl
arrival_is_no_poll w (events.Inject u v bytes) is = refl
arrival_is_no_poll w (events.Craft c v key body) is = refl
arrival_is_no_poll w (events.CraftStatus c v s d base have) is = refl
arrival_is_no_poll w (events.CraftDocument c v key version weights) is = refl
arrival_is_no_poll w (events.Publish u weights) is = absurd is
arrival_is_no_poll w (events.Rel s d payload) is = absurd is
arrival_is_no_poll w (events.Krel s d paths payload) is = absurd is
arrival_is_no_poll w (events.Prio s d prio expiry paths payload) is = absurd is
arrival_is_no_poll w (events.Take d s) is = absurd is
arrival_is_no_poll w (events.KTake d s) is = absurd is
arrival_is_no_poll w (events.TakePrio d) is = absurd is
arrival_is_no_poll w (events.Tick u now) is = absurd is
arrival_is_no_poll w (events.Weight u v weight) is = absurd is
arrival_is_no_poll w (events.Poll u v) is = absurd is
arrival_is_no_poll w (events.Start u) is = absurd is
arrival_is_no_poll w (events.Stop u) is = absurd is

arrival_keeps_frames : (ds : List Direction) (e : Event) (reply : Reply) → IsArrival e → directions_after ds e reply ≡ ds
arrival_keeps_frames ds (events.Pass u v number) reply is = refl
arrival_keeps_frames ds (events.Flip u v number back bit) reply is = refl
arrival_keeps_frames ds (events.Inject u v bytes) reply is = refl
arrival_keeps_frames ds (events.Craft c v key body) reply is = refl
arrival_keeps_frames ds (events.CraftStatus c v s d base have) reply is = refl
arrival_keeps_frames ds (events.CraftDocument c v key version weights) reply is = refl
arrival_keeps_frames ds (events.Publish u weights) reply is = absurd is
arrival_keeps_frames ds (events.Rel s d payload) reply is = absurd is
arrival_keeps_frames ds (events.Krel s d paths payload) reply is = absurd is
arrival_keeps_frames ds (events.Prio s d prio expiry paths payload) reply is = absurd is
arrival_keeps_frames ds (events.Take d s) reply is = absurd is
arrival_keeps_frames ds (events.KTake d s) reply is = absurd is
arrival_keeps_frames ds (events.TakePrio d) reply is = absurd is
arrival_keeps_frames ds (events.Tick u now) reply is = absurd is
arrival_keeps_frames ds (events.Weight u v weight) reply is = absurd is
arrival_keeps_frames ds (events.Poll u v) reply is = absurd is
arrival_keeps_frames ds (events.Start u) reply is = absurd is
arrival_keeps_frames ds (events.Stop u) reply is = absurd is

arrival_publishes_none : (e : Event) → IsArrival e → list_in e ≡ None
arrival_publishes_none (events.Pass u v number) is = refl
arrival_publishes_none (events.Flip u v number back bit) is = refl
arrival_publishes_none (events.Inject u v bytes) is = refl
arrival_publishes_none (events.Craft c v key body) is = refl
arrival_publishes_none (events.CraftStatus c v s d base have) is = refl
arrival_publishes_none (events.CraftDocument c v key version weights) is = refl
arrival_publishes_none (events.Publish u weights) is = absurd is
arrival_publishes_none (events.Rel s d payload) is = refl
arrival_publishes_none (events.Krel s d paths payload) is = refl
arrival_publishes_none (events.Prio s d prio expiry paths payload) is = refl
arrival_publishes_none (events.Take d s) is = refl
arrival_publishes_none (events.KTake d s) is = refl
arrival_publishes_none (events.TakePrio d) is = refl
arrival_publishes_none (events.Tick u now) is = refl
arrival_publishes_none (events.Weight u v weight) is = refl
arrival_publishes_none (events.Poll u v) is = refl
arrival_publishes_none (events.Start u) is = refl
arrival_publishes_none (events.Stop u) is = refl

arrival_publishes : (last : Published) (e : Event) → IsArrival e → last ≡ with_list last (list_in e)
arrival_publishes last e is = sym (ap (with_list last) (arrival_publishes_none e is))

-- what comes to a node comes to it after it reserved
same_world : (x : Setting) (w v : World) (n : NodeState) (e : Event) → v.directions ≡ w.directions → v.crafted ≡ w.crafted → v.published ≡ w.published
    → input_of (arts_of x) x v n e ≡ input_of (arts_of x) x w n e
same_world x w v n e ds crafted published = go e
  where
    go : (f : Event) → input_of (arts_of x) x v n f ≡ input_of (arts_of x) x w n f
    go (events.Pass a b k) = ap (λ (rows : List Direction). option_map (Datagram a) (frame_in rows a b k)) ds
    go (events.Flip a b k back bit) = ap (λ (rows : List Direction). option_map (λ bytes. Datagram a (flipped back bit bytes)) (frame_in rows a b k)) ds
    go (events.Craft c d key object) =
        ap (λ (rows : List Crafted). input_of (arts_of x) x (record w { crafted = rows }) n (events.Craft c d key object)) crafted
    go (events.CraftDocument c d key version weights) =
        ap (λ (rows : List Crafted). input_of (arts_of x) x (record w { crafted = rows; published = v.published }) n
        (events.CraftDocument c d key version weights))
        crafted
        ∙ ap (λ (last : Published). input_of (arts_of x) x (record w { published = last }) n (events.CraftDocument c d key version weights)) published
    go (events.Publish a weights) = ap (λ (last : Published). input_of (arts_of x) x (record w { published = last }) n (events.Publish a weights)) published
    go (events.CraftStatus c d a b base have) = refl
    go (events.Inject a b bytes) = refl
    go (events.Rel a b payload) = refl
    go (events.Krel a b paths payload) = refl
    go (events.Prio a b prio expiry paths payload) = refl
    go (events.Take a b) = refl
    go (events.KTake a b) = refl
    go (events.TakePrio a) = refl
    go (events.Tick a now) = refl
    go (events.Weight a b weight) = refl
    go (events.Poll a b) = refl
    go (events.Start a) = refl
    go (events.Stop a) = refl

same_input : (x : Setting) (w : World) (b : NodeState) (upto : ℕ) (e : Event) → input_of (arts_of x) x w (extended b upto) e ≡ input_of (arts_of x) x w b e
same_input x w b upto (events.Pass a c k) = refl
same_input x w b upto (events.Flip a c k back bit) = refl
same_input x w b upto (events.Craft c d key object) = refl
same_input x w b upto (events.CraftStatus c d a k base have) = refl
same_input x w b upto (events.CraftDocument c d key version weights) = refl
same_input x w b upto (events.Publish a weights) = refl
same_input x w b upto (events.Inject a c bytes) = refl
same_input x w b upto (events.Rel a c payload) = refl
same_input x w b upto (events.Krel a c paths payload) = refl
same_input x w b upto (events.Prio a c prio expiry paths payload) = refl
same_input x w b upto (events.Take a c) = refl
same_input x w b upto (events.KTake a c) = refl
same_input x w b upto (events.TakePrio a) = refl
same_input x w b upto (events.Tick a now) = refl
same_input x w b upto (events.Weight a c weight) = refl
same_input x w b upto (events.Poll a c) = refl
same_input x w b upto (events.Start a) = refl
same_input x w b upto (events.Stop a) = refl

comes_there : (x : Setting) (w : World) (e : Event) (bytes : List ℕ) → Comes x w e (cames.Datagram bytes) → (n : NodeState)
    → node_in (ready x w e).nodes (acting e) ≡ Some n
    → input_of (arts_of x) x (ready x w e) n e ≡ Some (Datagram (sender e) bytes)
comes_there x w e bytes comes n at =
    let was = was_there x w e (acting e) n at in
    same_world x w (ready x w e) n e (ready_frames x w e) (ready_crafts x w e) (ready_published x w e) ∙ by was.before was.readied
    ∙ comes was.before was.is_there
  where
    by : (b : NodeState) → Readied x w b n → input_of (arts_of x) x w n e ≡ input_of (arts_of x) x w b e
    by b (As_was same) = ap (λ (m : NodeState). input_of (arts_of x) x w m e) same
    by b (Extended on few same) =
        ap (λ (m : NodeState). input_of (arts_of x) x w m e) same ∙ same_input x w b (next_bound x.total (numbers_at w.keys b.fixed.me)) e

-- the node that acts is gone in either world
gone_there : (x : Setting) (w : World) (e : Event) → without_node (ready x w e).nodes (acting e) ≡ without_node w.nodes (acting e)
gone_there x w e = go x.epochs (node_in w.nodes (acting e)) refl
  where
    short : (b : NodeState) → node_in w.nodes (acting e) ≡ Some b → (t : Bool)
        → without_node (cond t (reserved x w b) w).nodes (acting e) ≡ without_node w.nodes (acting e)
    short b at true =
        let me : b.fixed.me ≡ acting e = node_is w.nodes (acting e) b at in
        let upto = next_bound x.total (numbers_at w.keys b.fixed.me) in
        ap (λ (u : NodeId). without_node (with_node w.nodes u (extended b upto)) (acting e)) me
        ∙ without_is_same w.nodes (acting e) (extended b upto) (eq-eqb b.fixed.me.0 (acting e).0 (ap (λ (u : NodeId). u.0) me))
    short b at false = refl

    go : (on : Bool) (found : Option NodeState) → node_in w.nodes (acting e) ≡ found
        → without_node (cond on (reserved_if x w found) w).nodes (acting e) ≡ without_node w.nodes (acting e)
    go false found at = refl
    go true None at = refl
    go true (Some b) at = short b at (is_short b)

pub arrived_comes_to : (s : Scenario) (es : List Event) (js : List Entry) (w : World) (after : List NodeState) (e : Event) (bytes : List ℕ) (done : Done)
    → IsArrival e → Comes (setting_of s) w e (cames.Datagram bytes)
    → Arrives s es js (ready (setting_of s) w e).nodes (ready (setting_of s) w e).directions (sender e) (acting e) bytes done after
    → ComesTo (setting_of s) es js w e done (world_of (ready (setting_of s) w e).keys after (ready (setting_of s) w e).directions (crafted_after w.crafted e)
    (ready (setting_of s) w e).published)
arrived_comes_to s es js w after e bytes (dones.Told entry) is comes h =
    let v = ready (setting_of s) w e in
    moved_is_told (setting_of s) es js w (world_of v.keys after v.directions (crafted_after w.crafted e) v.published) e entry (record {
      move = record {
        node = h.old;
        is_there = h.is_there;
        input = Datagram (sender e) bytes;
        reaches = comes_there (setting_of s) w e bytes comes h.old h.is_there;
        output = h.output;
        after = h.new;
        step = h.step;
        journal = subst (λ (k : ℕ). Says (setting_of s) k h.output entry) (sym (arrival_is_no_poll v e is)) h.says;
        world = same_parts v.keys after (with_node v.nodes (acting e) h.new) v.directions (directions_after v.directions e h.output.reply)
            (crafted_after w.crafted e) (crafted_after v.crafted e) v.published (with_list v.published (list_in e)) h.nodes_are
            (sym (arrival_keeps_frames v.directions e h.output.reply is))
            (ap (λ (rows : List Crafted). crafted_after rows e) (sym (ready_crafts (setting_of s) w e)))
            (arrival_publishes v.published e is);
      };
      unforged = h.unforged v.keys v.crafted v.published;
    })
arrived_comes_to s es js w after e bytes (dones.Forged what told) is comes (h, same) =
    let v = ready (setting_of s) w e in (
      record {
        entry = h.entry;
        new = world_of v.keys (with_node v.nodes (acting e) h.new) v.directions (crafted_after v.crafted e) v.published;
        turn = runs.Moves (record {
          node = h.old;
          is_there = h.is_there;
          input = Datagram (sender e) bytes;
          reaches = comes_there (setting_of s) w e bytes comes h.old h.is_there;
          output = h.output;
          after = h.new;
          step = h.step;
          journal = subst (λ (k : ℕ). Says (setting_of s) k h.output h.entry) (sym (arrival_is_no_poll v e is)) h.says;
          world = ap (λ (rows : List Direction). world_of v.keys (with_node v.nodes (acting e) h.new) rows (crafted_after v.crafted e) v.published)
              (sym (arrival_keeps_frames v.directions e h.output.reply is))
              ∙ ap (λ (last : Published). world_of v.keys (with_node v.nodes (acting e) h.new) (directions_after v.directions e h.output.reply)
              (crafted_after v.crafted e) last) (arrival_publishes v.published e is);
        });
        is = h.found v.keys v.crafted v.published;
      },
      (same, record { nodes = h.nodes_are ∙ gone_there (setting_of s) w e; frames = ready_frames (setting_of s) w e }),
    )

pub spent_is_told : (s : Scenario) (es : List Event) (js : List Entry) (w : World) (e : Event) (count : ℕ) (entry : Entry)
    → comes_to_nobody w e ≡ false → IsSpent (setting_of s) w e count → entry.reply ≡ replies.Spent count → entry.effects ≡ []
    → IsTold (setting_of s) es js w e entry w
spent_is_told s es js w e count entry some is reply effects = record {
  turn = runs.Stays (record {
    key = is.key;
    is_craft = is.is_craft;
    runs = not_off (list_any (is_me (acting e)) w.nodes) (is_missing w e) some;
    spent = is.spent;
    reply = reply ∙ ap replies.Spent is.total_is;
    effects = effects;
    world = refl;
  });
  unforged = refl;
}

-- ---- starts, stops, and what comes to nobody

pub life_is_told : (s : Scenario) (es : List Event) (js : List Entry) (w new : World) (e : Event) (entry : Entry) → (setting_of s).epochs ≡ true
    → Life (arts_of (setting_of s)) (setting_of s) w e entry new → IsTold (setting_of s) es js w e entry new
life_is_told s es js w new e entry on life = record { turn = runs.Lives on life; unforged = refl }

-- without epochs nothing comes to nobody
pub missed_is_told : (s : Scenario) (es : List Event) (js : List Entry) (w new : World) (e : Event) (entry : Entry) → Stands s es js w e → IsOther e
    → IsDown w e entry new → IsTold (setting_of s) es js w e entry new
missed_is_told s es js w new e entry st other down =
    life_is_told s es js w new e entry (epochs_are_on (arts_of (setting_of s)) (setting_of s) es js w e (fits s es js w e st) st.clean st.range down.nobody)
    (life_of (arts_of (setting_of s)) (setting_of s) w e entry new (Nobody other down))

-- ---- the same of the scene, whose node reserves indexes and then acts

module _ (s : Scenario) (es : List Event) (js : List Entry) (old : Scene) (e : Event) where
  -- the last version in the scene is that of the world where it acts
  pub asked_here : (there new : Scene) (document : List ℕ) (entry : Entry) → Stands s es js (world_in old) e
      → world_in there ≡ ready (setting_of s) (world_in old) e
      → IsHanded (setting_of s) there.published e document → AskedAmong there.nodes e document entry new.nodes
      → new.keys ≡ there.keys → new.directions ≡ there.directions → new.crafters ≡ there.crafters → new.published ≡ with_list there.published (list_in e)
      → IsTold (setting_of s) es js (world_in old) e entry (world_in new)
  asked_here there new document entry st made handed asked keys directions crafters published =
      let nodes_are = ap (λ (w : World). w.nodes) made in
      let last_is : there.published ≡ (ready (setting_of s) (world_in old) e).published = ap (λ (w : World). w.published) made in
      let keys_are = keys ∙ ap (λ (w : World). w.keys) made in
      let frames_are = directions ∙ ap (λ (w : World). w.directions) made in
      let crafts_are = ap (λ (c : Crafters). c.keys) crafters ∙ ap (λ (w : World). w.crafted) made in
      let published_is = published ∙ ap (λ (last : Published). with_list last (list_in e)) last_is in
      rw (keys_are, frames_are, crafts_are, published_is) (asked_is_told s es js (world_in old) new.nodes e document entry st
      (subst (λ (last : Published). IsHanded (setting_of s) last e document) last_is handed)
      (subst (λ (ns : List NodeState). AskedAmong ns e document entry new.nodes) nodes_are asked))

  pub polled_here : (there new : Scene) (u v : NodeId) (entry : Entry) → Stands s es js (world_in old) e → e ≡ events.Poll u v
      → world_in there ≡ ready (setting_of s) (world_in old) e
      → IsPolled there.nodes there.directions u v entry new.nodes new.directions → new.keys ≡ there.keys → new.crafters ≡ there.crafters
      → new.published ≡ there.published → IsTold (setting_of s) es js (world_in old) e entry (world_in new)
  polled_here there new u v entry st is made polled keys crafters published =
      let v_is = ap (λ (w : World). w.nodes) made in
      let frames_are = ap (λ (w : World). w.directions) made in
      let keys_are = keys ∙ ap (λ (w : World). w.keys) made in
      let crafts_are = ap (λ (c : Crafters). c.keys) crafters ∙ ap (λ (w : World). w.crafted) made in
      let published_is = published ∙ ap (λ (w : World). w.published) made in
      rw (keys_are, crafts_are, published_is)
      (polled_is_told s es js (world_in old) new.nodes new.directions e u v entry st is (rw (v_is, frames_are) at polled))

  -- after want of memory
  pub undone_here : (there new : Scene) → world_in there ≡ ready (setting_of s) (world_in old) e → new.nodes ≡ there.nodes → new.directions ≡ there.directions
      → IsUndone (setting_of s) (world_in old) e (world_in new)
  undone_here there new made nodes directions = record {
    nodes = inr (nodes ∙ ap (λ (w : World). w.nodes) made);
    frames = directions ∙ ap (λ (w : World). w.directions) made ∙ ready_frames (setting_of s) (world_in old) e;
  }

  -- and which takes what the event brings before
  there_is : (brought there : Scene) (crafted : List Crafted) → brought ≡ with_crafted old crafted → world_in there ≡ ready (setting_of s) (world_in brought) e
      → world_in there ≡ record (ready (setting_of s) (world_in old) e) { crafted = crafted }
  there_is brought there crafted came made =
      made ∙ ap (λ (c : Scene). ready (setting_of s) (world_in c) e) came ∙ ready_with (setting_of s) (world_in old) e crafted

  pub filed_still : (brought : Scene) (crafted : List Crafted) (u : NodeId) → Stands s es js (world_in old) e → brought ≡ with_crafted old crafted
      → AreFiled s brought.keys brought.nodes u
  filed_still brought crafted u st came = subst (λ (c : Scene). AreFiled s c.keys c.nodes u) (sym came) (are_filed s es js old e st u)

  pub hears_there : (brought there : Scene) (crafted : List Crafted) (len : ℕ) → ComesToOne s es js (world_in old) e → IsArrival e
      → brought ≡ with_crafted old crafted
      → world_in there ≡ ready (setting_of s) (world_in brought) e → len ≡ (setting_of s).signature_len
      → CanHear s len there.nodes (acting e) (sender e)
  hears_there brought there crafted len comes is came made long =
      let nodes_are = ap (λ (w : World). w.nodes) (there_is brought there crafted came made) in
      rw (nodes_are, long) (can_hear s es js (world_in old) e comes.stands comes.somebody is)

  pub arrived_here : (brought there new : Scene) (bytes : List ℕ) (done : Done) → IsArrival e → Comes (setting_of s) (world_in old) e (cames.Datagram bytes)
      → brought ≡ with_crafted old (crafted_after old.crafters.keys e) → world_in there ≡ ready (setting_of s) (world_in brought) e
      → Arrives s es js there.nodes there.directions (sender e) (acting e) bytes done new.nodes
      → new.keys ≡ there.keys → new.directions ≡ there.directions → new.crafters ≡ there.crafters → new.published ≡ there.published
      → ComesTo (setting_of s) es js (world_in old) e done (world_in new)
  arrived_here brought there new bytes done is comes came made arrives keys directions crafters published =
      let crafted = crafted_after old.crafters.keys e in
      let v = ready (setting_of s) (world_in old) e in
      let is_there = there_is brought there crafted came made in
      let nodes_are : there.nodes ≡ v.nodes = ap (λ (w : World). w.nodes) is_there in
      let frames_are : there.directions ≡ v.directions = ap (λ (w : World). w.directions) is_there in
      let keys_are : new.keys ≡ v.keys = keys ∙ ap (λ (w : World). w.keys) is_there in
      let crafts_are : new.crafters.keys ≡ crafted = ap (λ (c : Crafters). c.keys) crafters ∙ ap (λ (w : World). w.crafted) is_there in
      let published_is : new.published ≡ v.published = published ∙ ap (λ (w : World). w.published) is_there in
      rw (keys_are, directions, frames_are, crafts_are, published_is)
      (arrived_comes_to s es js (world_in old) new.nodes e bytes done is comes (rw (nodes_are, frames_are) at arrives))

  pub spent_here : (new : Scene) (count : ℕ) (entry : Entry) → comes_to_nobody (world_in old) e ≡ false → IsSpent (setting_of s) (world_in old) e count
      → new ≡ with_crafted old old.crafters.keys → entry.reply ≡ replies.Spent count → entry.effects ≡ []
      → IsTold (setting_of s) es js (world_in old) e entry (world_in new)
  spent_here new count entry some spent came reply effects =
      subst (λ (c : Scene). IsTold (setting_of s) es js (world_in old) e entry (world_in c)) (sym came)
      (spent_is_told s es js (world_in old) e count entry some spent reply effects)
