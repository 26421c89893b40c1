-- What holds of a run with one more event in its range: the node that acts is there and may be called, and the frame that is to come was made.
use Rattle.std.proofs.Common.{◌≡◌, ◌+◌, ◌<◌, ◌≤◌, ◌^◌, ◌∙◌, ℕ, Bool, true, false, List, length, None, Some, refl, sym, ap, subst, arith}
use Rattle.std.specs.Prelude.{◌&&◌, ◌||◌, IsTrue, not}
use Rattle.std.specs.List.{list_any}
use Rattle.std.proofs.lemmas.List.Sums.{count_by-le-length}
use Rattle.sp_base.specs.declared.id.NodeId.{NodeId}
use Rattle.sp_journal.specs.declared.entry.Entry.{Entry}
use Rattle.sp_node_format.proofs.PolledFrames.{signatures_are_short}
use Rattle.sp_node_format.specs.Format.{format_of}
use Rattle.sp_node_format.specs.PolledFrames.{most_signature}
use Rattle.sp_rules.specs.Node.{NodeState}
use Rattle.sp_rules.specs.Parts.{Fixed}
use Rattle.sp_rules.specs.Steps.{Input, NodeStep, Publish}
use Rattle.sp_runs.specs.Inputs.{acting, input_of}
use Rattle.sp_runs.specs.Lives.{IsOther, comes_to_nobody, is_missing, ready}
use Rattle.sp_runs.specs.Runs.{AreFields, is_hop, is_poll, polls}
use Rattle.sp_runs.specs.Scenarios.{setting_of}
use Rattle.sp_runs.specs.Settings.{Setting, SettingFits, is_correct}
use Rattle.sp_runs.specs.Worlds.{World, frames_in, is_me, node_in}
use Rattle.sp_schedule_events.specs.declared.event.Event.{Event}
use Rattle.sp_schedule_events.specs.declared.event.Event.TheVariants as events
use Rattle.sp_schedule_events.specs.declared.scenario.Scenario.{Scenario}
use Rattle.laws_runs.proofs.Counts.{frames_are_counted}
use Rattle.laws_runs.proofs.Neighbours.{hop_back}
use Rattle.laws_runs.proofs.KeyFiles.{has_file, key_files_stand}
use Rattle.laws_runs.proofs.Ready.{ready_any, was_there}
use Rattle.laws_runs.proofs.Running.{found_there, there_found}
use Rattle.laws_runs.proofs.Signed.{signs, signs_there}
use Rattle.laws_runs.proofs.There.{only_correct_nodes_run}
use Rattle.laws_runs.proofs.Words.{answered_too, each_reply_has_words, neighbours_are_answered}
use Rattle.laws_runs.specs.KeyFiles.{KeysStand}
use Rattle.laws_runs.specs.Signs.{Good, NodeIs}
use Rattle.laws_runs_format.specs.Arts.{arts_of}
use Rattle.laws_runs_format.proofs.Headers.{headers_fit}
use Rattle.laws_runs_format.proofs.ReadBack.{format_carries}
use Rattle.sp_epoch.specs.Numbers.{IsOneOf}
use Rattle.sp_schedule_events.specs.Lives.{is_started}
use Rattle.sp_world.specs.Arrivals.{CanHear}
use Rattle.sp_world.specs.Documents.{IsHanded}
use Rattle.sp_world.specs.Scenes.{AreFiled, CanBegin, HasFile, Scene, world_in}
use Rattle.sp_world.specs.Stands.{ComesToOne, IsArrival, IsOfFormat, Stands, sender}
use Rattle.sp_world_steps.specs.Asks.{asked}
use Rattle.sp_world_steps.specs.Members.{CanAsk, CanCall}

-- ---- of any event in its range

pub actor_is_correct : (x : Setting) (es : List Event) (e : Event) → AreFields x es e → IsTrue (is_correct x (acting e))
actor_is_correct x es (events.Rel s d payload) range = range.0
actor_is_correct x es (events.Krel s d paths payload) range = range.1
actor_is_correct x es (events.Prio s d prio expiry paths payload) range = range.0
actor_is_correct x es (events.Take d s) range = range.0
actor_is_correct x es (events.KTake d s) range = range.1
actor_is_correct x es (events.TakePrio d) range = range
actor_is_correct x es (events.Tick u now) range = range.0
actor_is_correct x es (events.Weight u v weight) range = range.0
actor_is_correct x es (events.Poll u v) range = range.0
actor_is_correct x es (events.Pass u v number) range = range.1
actor_is_correct x es (events.Flip u v number back bit) range = range.1
actor_is_correct x es (events.Inject u v bytes) range = range.0
actor_is_correct x es (events.Craft c v key body) range = range.0
actor_is_correct x es (events.CraftStatus c v s d base have) range = range.0
actor_is_correct x es (events.Publish u weights) range = range.0
actor_is_correct x es (events.CraftDocument c v key version weights) range = range.0
actor_is_correct x es (events.Start u) range = range.0
actor_is_correct x es (events.Stop u) range = range

-- bytes come from a neighbour
sender_is_near : (x : Setting) (es : List Event) (e : Event) → IsArrival e → AreFields x es e → IsTrue (is_hop x (sender e) (acting e))
sender_is_near x es (events.Pass u v number) is range = range.2
sender_is_near x es (events.Flip u v number back bit) is range = range.2
sender_is_near x es (events.Inject u v bytes) is range = range.1
sender_is_near x es (events.Craft c v key body) is range = range.1
sender_is_near x es (events.CraftStatus c v s d base have) is range = range.1
sender_is_near x es (events.CraftDocument c v key version weights) is range = range.1
sender_is_near x es (events.Publish u weights) is range = absurd is
sender_is_near x es (events.Rel s d payload) is range = absurd is
sender_is_near x es (events.Krel s d paths payload) is range = absurd is
sender_is_near x es (events.Prio s d prio expiry paths payload) is range = absurd is
sender_is_near x es (events.Take d s) is range = absurd is
sender_is_near x es (events.KTake d s) is range = absurd is
sender_is_near x es (events.TakePrio d) is range = absurd is
sender_is_near x es (events.Tick u now) is range = absurd is
sender_is_near x es (events.Weight u v weight) is range = absurd is
sender_is_near x es (events.Poll u v) is range = absurd is
sender_is_near x es (events.Start u) is range = absurd is
sender_is_near x es (events.Stop u) is range = absurd is

-- what is asked is what reaches the node, where the administrator hands out this document
pub asked_reaches : (x : Setting) (es : List Event) (w : World) (n : NodeState) (e : Event) (document : List ℕ) (input : Input)
    → IsHanded x w.published e document → asked document e ≡ Some input → input_of (arts_of x) x w n e ≡ Some input
asked_reaches x es w n (events.Rel s d payload) document input handed is = is
asked_reaches x es w n (events.Krel s d paths payload) document input handed is = is
asked_reaches x es w n (events.Prio s d prio expiry paths payload) document input handed is = is
asked_reaches x es w n (events.Take d s) document input handed is = is
asked_reaches x es w n (events.KTake d s) document input handed is = is
asked_reaches x es w n (events.TakePrio d) document input handed is = is
asked_reaches x es w n (events.Tick u now) document input handed is = is
asked_reaches x es w n (events.Weight u v weight) document input handed is = is
asked_reaches x es w n (events.Poll u v) document input handed is = absurd (cc)
asked_reaches x es w n (events.Pass u v number) document input handed is = absurd (cc)
asked_reaches x es w n (events.Flip u v number back bit) document input handed is = absurd (cc)
asked_reaches x es w n (events.Inject u v bytes) document input handed is = absurd (cc)
asked_reaches x es w n (events.Craft c v key body) document input handed is = absurd (cc)
asked_reaches x es w n (events.CraftStatus c v s d base have) document input handed is = absurd (cc)
asked_reaches x es w n (events.CraftDocument c v key version weights) document input handed is = absurd (cc)
asked_reaches x es w n (events.Publish u weights) document input handed is = ap (λ (bytes : List ℕ). Some (Publish bytes)) (sym handed) ∙ is
asked_reaches x es w n (events.Start u) document input handed is = absurd (cc)
asked_reaches x es w n (events.Stop u) document input handed is = absurd (cc)

-- something is asked by each event that brings nothing, and is no poll, no start and no stop
pub asks : (document : List ℕ) (e : Event) → IsOther e → (IsArrival e → ⊥) → ((u v : NodeId) → e ≡ events.Poll u v → ⊥) → asked document e ≡ None → ⊥
asks document (events.Rel s d payload) other call poll none = absurd (cc)
asks document (events.Krel s d paths payload) other call poll none = absurd (cc)
asks document (events.Prio s d prio expiry paths payload) other call poll none = absurd (cc)
asks document (events.Take d s) other call poll none = absurd (cc)
asks document (events.KTake d s) other call poll none = absurd (cc)
asks document (events.TakePrio d) other call poll none = absurd (cc)
asks document (events.Tick u now) other call poll none = absurd (cc)
asks document (events.Weight u v weight) other call poll none = absurd (cc)
asks document (events.Poll u v) other call poll none = poll u v refl
asks document (events.Pass u v number) other call poll none = call tt
asks document (events.Flip u v number back bit) other call poll none = call tt
asks document (events.Inject u v bytes) other call poll none = call tt
asks document (events.Craft c v key body) other call poll none = call tt
asks document (events.CraftStatus c v s d base have) other call poll none = call tt
asks document (events.CraftDocument c v key version weights) other call poll none = call tt
asks document (events.Publish u weights) other call poll none = absurd (cc)
asks document (events.Start u) other call poll none = other
asks document (events.Stop u) other call poll none = other

pub not_off : (runs missing : Bool) → (not runs || missing) ≡ false → runs ≡ true
not_off true missing e = refl
not_off false missing e = absurd (let wrong : true ≡ false = e in cc)

pub nobody_there : (w : World) (e : Event) → node_in w.nodes (acting e) ≡ None → comes_to_nobody w e ≡ true
nobody_there w e none = go (list_any (is_me (acting e)) w.nodes) refl
  where
    go : (runs : Bool) → list_any (is_me (acting e)) w.nodes ≡ runs → (not runs || is_missing w e) ≡ true
    go false is = refl
    go true is = absurd (let there = (there_found (acting e) w.nodes is).1 in let wrong = sym none ∙ there in cc)

pub somebody_there : (w : World) (e : Event) (n : NodeState) → node_in w.nodes (acting e) ≡ Some n → comes_to_nobody w e ≡ is_missing w e
somebody_there w e n there = ap (λ (runs : Bool). not runs || is_missing w e) (found_there (acting e) n w.nodes there)

module _ (s : Scenario) (es : List Event) (js : List Entry) (w : World) (e : Event) (st : Stands s es js w e) where
  pub fits : SettingFits (arts_of (setting_of s)) (setting_of s)
  fits = headers_fit s st.header

  few_calls : length es < 2 ^ 60
  few_calls = let few = st.few in omega (arith, few)

  pub even : length es ≡ length js
  even = (frames_are_counted (arts_of (setting_of s)) (setting_of s) es js w st.clean).entries

  pub keys : KeysStand (setting_of s) es w
  keys = key_files_stand (arts_of (setting_of s)) (setting_of s) es js w fits st.clean

  -- ---- each node of the world in which the event's node acts

  pub each : (u : NodeId) (n : NodeState) → node_in (ready (setting_of s) w e).nodes u ≡ Some n
      → NodeIs (setting_of s) (Good (arts_of (setting_of s)) (setting_of s) es js) u n
  each = (signs_there (arts_of (setting_of s)) (setting_of s) es js w e fits (format_carries s.format) st.clean).nodes

  is_short : (u : NodeId) (n : NodeState) → node_in (ready (setting_of s) w e).nodes u ≡ Some n → n.fixed.signature_len ≤ most_signature
  is_short u n at = rw (ap (λ (f : Fixed). f.signature_len) (each u n at).fixed) (signatures_are_short s.height)

  pub can_call : (u v : NodeId) (n : NodeState) → node_in (ready (setting_of s) w e).nodes u ≡ Some n → IsTrue (is_hop (setting_of s) u v)
      → CanCall (ready (setting_of s) w e).nodes u v
  can_call u v n at hop =
      let was = was_there (setting_of s) w e u n at in
      record {
        node = n;
        is_there = at;
        answers = answered_too (setting_of s) w was.before n v was.readied
            (neighbours_are_answered (arts_of (setting_of s)) (setting_of s) es js w fits (format_carries s.format) st.clean few_calls u v was.before
            was.is_there hop);
        short = is_short u n at;
      }

  -- ---- the node that acts

  module _ (some : comes_to_nobody w e ≡ false) where
    runs : list_any (is_me (acting e)) w.nodes ≡ true
    runs = not_off (list_any (is_me (acting e)) w.nodes) (is_missing w e) some

    pub actor : (n : NodeState) × (node_in w.nodes (acting e) ≡ Some n)
    actor = there_found (acting e) w.nodes runs

    pub ready_actor : (n : NodeState) × (node_in (ready (setting_of s) w e).nodes (acting e) ≡ Some n)
    ready_actor = there_found (acting e) (ready (setting_of s) w e).nodes (ready_any (setting_of s) w e (acting e) ∙ runs)

    pub can_ask : (document : List ℕ) → IsHanded (setting_of s) (ready (setting_of s) w e).published e document → (asked document e ≡ None → ⊥)
        → CanAsk (ready (setting_of s) w e).nodes e document
    can_ask document handed asks = record {
      node = ready_actor.0;
      is_there = ready_actor.1;
      may = record {
        setting = setting_of s;
        before = es;
        fields = st.range.fields;
        format = ap (λ (f : Fixed). f.topology.format) (each (acting e) ready_actor.0 ready_actor.1).fixed;
        asks = asks;
        words = λ input is. record {
          setting = setting_of s;
          words = λ output after step.
              each_reply_has_words (arts_of (setting_of s)) (setting_of s) es js w fits (format_carries s.format) st.clean few_calls e ready_actor.0 after input
              output st.range ready_actor.1
              (asked_reaches (setting_of s) es (ready (setting_of s) w e) ready_actor.0 e document input handed is)
              (subst (λ (f : Fixed). NodeStep (format_of f) ready_actor.0 input output after) (each (acting e) ready_actor.0 ready_actor.1).fixed step) 0;
        };
      };
    }

    pub can_hear : IsArrival e → CanHear s (setting_of s).signature_len (ready (setting_of s) w e).nodes (acting e) (sender e)
    unfolding can_call ready_actor
    can_hear is =
        let fixed = (each (acting e) ready_actor.0 ready_actor.1).fixed in
        record {
          call = can_call (acting e) (sender e) ready_actor.0 ready_actor.1
              (subst IsTrue (hop_back (setting_of s) (sender e) (acting e)) (sender_is_near (setting_of s) es e is st.range.fields));
          me = ap (λ (f : Fixed). f.me) fixed;
          of_format = ap (λ (f : Fixed). f.topology.format) fixed;
          epochs = ap (λ (f : Fixed). f.epochs) fixed;
          long = ap (λ (f : Fixed). f.signature_len) fixed;
        }

    pub of_format : IsOfFormat s.format w.nodes (acting e)
    of_format =
        let fixed = (only_correct_nodes_run (arts_of (setting_of s)) (setting_of s) es js w fits (format_carries s.format) st.clean (acting e) actor.0
        actor.1).1 in
        record {
          node = actor.0;
          is_there = actor.1;
          me = ap (λ (f : Fixed). f.me) fixed;
          of_format = ap (λ (f : Fixed). f.topology.format) fixed;
        }

-- ---- what starts, stops and reserves ask of key files

few_changes : (s : Scenario) (es : List Event) (js : List Entry) (w : World) (e : Event) → Stands s es js w e → (u : NodeId) → IsOneOf w.keys u
    → HasFile s w.keys u
few_changes s es js w e st u there =
    let n = (keys s es js w e st).numbers u in
    let serial = n.serial in
    let boot = n.boot in
    let few = st.few in
    record { there = there; serial = omega (arith, serial, few); boot = omega (arith, boot, few); bound = n.bound }

pub are_filed : (s : Scenario) (es : List Event) (js : List Entry) (c : Scene) (e : Event) → Stands s es js (world_in c) e → (u : NodeId)
    → AreFiled s c.keys c.nodes u
are_filed s es js c e st u on n at =
    let file = ((keys s es js (world_in c) e st).files on).nodes u n at in
    let is = (signs (arts_of (setting_of s)) (setting_of s) es js (world_in c) (fits s es js (world_in c) e st) (format_carries s.format) st.clean).nodes u n
    at in
    record { me = ap (λ (f : Fixed). f.me) is.fixed; file = few_changes s es js (world_in c) e st u file.there; bound = file.bound; total = is.total }

pub can_begin : (s : Scenario) (es : List Event) (js : List Entry) (c : Scene) (e : Event) (u : NodeId) → Stands s es js (world_in c) e → e ≡ events.Start u
    → CanBegin s c.keys u
can_begin s es js c e u st is = begins (subst (λ (f : Event). Stands s es js (world_in c) f) is st)
  where
    both_on : (a b : Bool) → (a && b) ≡ true → a ≡ true
    both_on true b is = refl
    both_on false b is = absurd (let wrong : false ≡ true = is in cc)

    begins : Stands s es js (world_in c) (events.Start u) → CanBegin s c.keys u
    begins st =
        let correct = st.range.fields.0 in
        let there = has_file (arts_of (setting_of s)) (setting_of s) es (world_in c) u (fits s es js (world_in c) (events.Start u) st) correct
        (keys s es js (world_in c) (events.Start u) st) in
        record {
          header = st.header;
          epochs = both_on s.epochs (not (is_started es u.0)) st.range.may;
          correct = correct;
          file = few_changes s es js (world_in c) (events.Start u) st u there;
        }

-- ---- a poll

polls_are_few : (es : List Event) (u v : NodeId) → polls es u v ≤ length es
polls_are_few es u v = count_by-le-length (is_poll u v) es

pub few_frames : (s : Scenario) (es : List Event) (js : List Entry) (w : World) (e : Event) (u v : NodeId) → Stands s es js w e
    → length (frames_in w.directions u v) + 1 < 2 ^ 32
few_frames s es js w e u v st =
    let counted = (frames_are_counted (arts_of (setting_of s)) (setting_of s) es js w st.clean).frames u v in
    let most = polls_are_few es u v in
    let few = st.few in
    omega (arith, counted, most, few)

pub may_poll : (s : Scenario) (es : List Event) (js : List Entry) (w : World) (e : Event) (u v : NodeId) → ComesToOne s es js w e → e ≡ events.Poll u v
    → CanCall (ready (setting_of s) w e).nodes u v
may_poll s es js w e u v c is =
    let there = ready_actor s es js w e c.stands c.somebody in
    let fields = subst (λ (f : Event). AreFields (setting_of s) es f) is c.stands.range.fields in
    let acts : acting e ≡ u = ap acting is in
    can_call s es js w e c.stands u v there.0 (subst (λ (k : NodeId). node_in (ready (setting_of s) w e).nodes k ≡ Some there.0) acts there.1) fields.1
