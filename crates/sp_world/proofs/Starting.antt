-- What a start, a stop, a reserve and a miss make of the scene is what the rules of runs say.
use Rattle.std.proofs.Common.{◌≡◌, ℕ, ◌<◌, Bool, true, false, cond, List, [], ◌∷◌, ◌++◌, Option, None, Some, Ok, Err, refl, sym, ap, ap₂, ◌∙◌, subst, arith}
use Rattle.std.proofs.Common.{inl, inr}
use Rattle.std.specs.Prelude.{◌-◌, ◌&&◌, nat_lt}
use Rattle.std.proofs.lemmas.Bool.Decides.{nat_tests}
use Rattle.sp_keystate.specs.declared.starts.TheConstants.{LEAST_LEFT}
use Rattle.sp_base.specs.declared.id.NodeId.{NodeId}
use Rattle.sp_epoch.specs.Calls.{IsNext, Reserves, Starts}
use Rattle.sp_epoch.specs.Numbers.{after_more, next_bound, numbers_at, with_numbers}
use Rattle.sp_epoch.specs.declared.refused.EpochRefused.{EpochRefused}
use Rattle.sp_epoch.specs.declared.refused.EpochRefused.TheVariants.{Exhausted, Memory}
use Rattle.sp_epoch.specs.declared.started.Started.{Started}
use Rattle.sp_journal.specs.declared.entry.Entry.{Entry}
use Rattle.sp_journal.specs.declared.entry.Reply.TheVariants as replies
use Rattle.sp_keystate.specs.declared.numbers.Numbers.{Numbers}
use Rattle.sp_rules.specs.Node.{NodeState, extended, start_effects}
use Rattle.laws_runs_format.specs.Arts.{arts_of}
use Rattle.sp_runs.specs.Inputs.{acting}
use Rattle.sp_runs.specs.Lives.{IsDown, IsStop, Life, comes_to_nobody, directions_missed, is_short, ready, reserved, reserved_if}
use Rattle.sp_runs.specs.Scenarios.{setting_of}
use Rattle.sp_runs.specs.Settings.{fixed_at, node_at_start}
use Rattle.sp_runs.specs.Worlds.{Crafted, Direction, World, node_in, with_frame, with_node, without_node}
use Rattle.sp_schedule_events.specs.Documents.{list_in, with_list}
use Rattle.sp_schedule_events.specs.declared.published.Published.{Published}
use Rattle.sp_schedule_events.specs.declared.event.Event.{Event}
use Rattle.sp_schedule_events.specs.declared.event.Event.TheVariants as events
use Rattle.sp_schedule_events.specs.declared.scenario.Scenario.{Scenario}
use Rattle.laws_runs.proofs.Tables.{node_is}
use Rattle.sp_world.specs.Boots.{CanStart}
use Rattle.sp_world.specs.Scenes.{IsFiled, Scene, world_in}
use Rattle.sp_world_steps.specs.Members.{CanReserve, ReservedAmong}

-- ---- a start

-- what the key file gives may start the node
pub may_start : (s : Scenario) (keys : List Numbers) (u : NodeId) (start : Started) → IsNext (setting_of s).total u keys (Ok start) → CanStart s start
may_start s keys u start next =
    let left = next.0 in
    subst (CanStart s) (sym next.1) (record { boot = omega arith; index = omega (arith, left); bound = omega arith; announces = λ on. omega (arith, left) })

pub is_started : (s : Scenario) (old new : Scene) (u : NodeId) (next taken : Started) (n : NodeState) (entry : Entry)
    → IsNext (setting_of s).total u old.keys (Ok next) → Starts (setting_of s).total u old.keys new.keys (Ok taken)
    → n ≡ node_at_start (arts_of (setting_of s)) (setting_of s) u next → new.nodes ≡ old.nodes ++ n ∷ [] → new.directions ≡ old.directions
    → new.crafters ≡ old.crafters
    → new.published ≡ old.published
    → entry.reply ≡ replies.Started taken.boot taken.index
    → entry.effects ≡ start_effects (arts_of (setting_of s)) (fixed_at (setting_of s) u next.boot)
    → Life (arts_of (setting_of s)) (setting_of s) (world_in old) (events.Start u) entry (world_in new)
is_started s old new u next taken n entry given took is nodes frames crafters published reply effects =
    let arts = arts_of (setting_of s) in
    let x = setting_of s in
    inl (record {
      left = given.0;
      reply = reply ∙ ap (λ (k : Started). replies.Started k.boot k.index) took.1;
      effects = effects ∙ ap (λ (k : Started). start_effects arts (fixed_at x u k.boot)) given.1;
      world = rw (took.2, nodes, frames, crafters, published, is, given.1) refl;
    })

pub is_exhausted : (s : Scenario) (old : Scene) (u : NodeId) (bound : ℕ) (entry : Entry) → IsNext (setting_of s).total u old.keys (Err (Exhausted bound))
    → entry.reply ≡ replies.Exhausted bound → entry.effects ≡ []
    → Life (arts_of (setting_of s)) (setting_of s) (world_in old) (events.Start u) entry (world_in old)
is_exhausted s old u bound entry given reply effects =
    inr (record { none_left = given.0; reply = reply ∙ ap replies.Exhausted given.1; effects = effects; world = refl })

-- a start that would be given is given
pub not_refused : (s : Scenario) (keys after : List Numbers) (u : NodeId) (next : Started) (why : EpochRefused) → IsNext (setting_of s).total u keys (Ok next)
    → Starts (setting_of s).total u keys after (Err why) → ⊥
not_refused s keys after u next (Exhausted bound) given refused = let low = given.0 in let high = refused.0 in absurd (omega (arith, low, high))
not_refused s keys after u next Memory given refused = refused

-- ---- a stop, and what comes to nobody

-- what is left once the node had its reserve
pub is_stopped : (s : Scenario) (old kept new : Scene) (u : NodeId) (entry : Entry)
    → ((event : Event) → acting event ≡ u → world_in kept ≡ ready (setting_of s) (world_in old) event)
    → new.nodes ≡ without_node kept.nodes u → new.keys ≡ kept.keys → new.directions ≡ kept.directions → new.crafters ≡ kept.crafters
    → new.published ≡ kept.published → entry.reply ≡ replies.Stopped → entry.effects ≡ [] → IsStop (setting_of s) (world_in old) u entry (world_in new)
is_stopped s old kept new u entry made nodes keys directions crafters published reply effects = record {
  reply = reply;
  effects = effects;
  world = rw (nodes, keys, directions, crafters, published) (ap (λ (w : World). record w { nodes = without_node w.nodes u }) (made (events.Stop u) refl));
}

pub poll_is_down : (old : World) (u v : NodeId) (entry : Entry) (ds : List Direction) → comes_to_nobody old (events.Poll u v) ≡ true
    → entry.reply ≡ replies.Down → entry.effects ≡ [] → ds ≡ with_frame old.directions u v None
    → IsDown old (events.Poll u v) entry (record old { directions = ds })
poll_is_down old u v entry ds nobody reply effects missed = record {
  nobody = nobody;
  reply = reply;
  effects = effects;
  world = ap (λ (d : List Direction). record old { directions = d }) missed;
}

-- another event publishes at most
pub other_is_down : (old : World) (e : Event) (entry : Entry) (last : Published) → comes_to_nobody old e ≡ true → ((u v : NodeId) → e ≡ events.Poll u v → ⊥)
    → entry.reply ≡ replies.Down → entry.effects ≡ [] → last ≡ with_list old.published (list_in e)
    → IsDown old e entry (record old { published = last })
other_is_down old e entry last nobody apart reply effects made = record {
  nobody = nobody;
  reply = reply;
  effects = effects;
  world =
      ap (λ (p : Published). record old { published = p }) made
      ∙ ap (λ (ds : List Direction). record old { directions = ds; published = with_list old.published (list_in e) }) (none_missed e apart);
}
  where
    none_missed : (f : Event) → ((u v : NodeId) → f ≡ events.Poll u v → ⊥) → old.directions ≡ directions_missed old.directions f
    none_missed (events.Poll u v) apart = absurd (apart u v refl)
    none_missed (events.Rel a b payload) apart = refl
    none_missed (events.Krel a b paths payload) apart = refl
    none_missed (events.Prio a b prio expiry paths payload) apart = refl
    none_missed (events.Take a b) apart = refl
    none_missed (events.KTake a b) apart = refl
    none_missed (events.TakePrio a) apart = refl
    none_missed (events.Tick a now) apart = refl
    none_missed (events.Weight a b weight) apart = refl
    none_missed (events.Pass a b number) apart = refl
    none_missed (events.Flip a b number back bit) apart = refl
    none_missed (events.Inject a b bytes) apart = refl
    none_missed (events.Craft c v key object) apart = refl
    none_missed (events.CraftStatus c v a b base have) apart = refl
    none_missed (events.Publish a weights) apart = refl
    none_missed (events.CraftDocument c v key version weights) apart = refl
    none_missed (events.Start a) apart = refl
    none_missed (events.Stop a) apart = refl

-- ---- a reserve

module _ (s : Scenario) (keys : List Numbers) (nodes : List NodeState) (ds : List Direction) (crafted : List Crafted) (last : Published) (u : NodeId) where
  abbrev w : World
  w = record { keys = keys; nodes = nodes; directions = ds; crafted = crafted; published = last }

  pub no_epochs : (event : Event) → s.epochs ≡ false → ready (setting_of s) w event ≡ w
  no_epochs event off = rw off refl

  pub runs_not : (event : Event) → acting event ≡ u → node_in nodes u ≡ None → ready (setting_of s) w event ≡ w
  runs_not event acts none = go s.epochs (node_in nodes (acting event)) (ap (node_in nodes) acts ∙ none)
    where
      go : (on : Bool) (found : Option NodeState) → found ≡ None → cond on (reserved_if (setting_of s) w found) w ≡ w
      go on (Some n) is = absurd cc
      go true None is = refl
      go false None is = refl

  pub has_enough : (event : Event) (n : NodeState) → acting event ≡ u → node_in nodes u ≡ Some n → is_short n ≡ false → ready (setting_of s) w event ≡ w
  has_enough event n acts at enough = go s.epochs
    where
      found : reserved_if (setting_of s) w (node_in nodes (acting event)) ≡ w
      found =
          ap (λ (o : Option NodeState). reserved_if (setting_of s) w o) (ap (node_in nodes) acts ∙ at)
          ∙ ap (λ t. cond t (reserved (setting_of s) w n) w) enough

      go : (on : Bool) → cond on (reserved_if (setting_of s) w (node_in nodes (acting event))) w ≡ w
      go true = found
      go false = refl

  pub is_reserved : (event : Event) (n : NodeState) (upto : ℕ) (after_keys : List Numbers) (after : List NodeState) → s.epochs ≡ true → acting event ≡ u
      → node_in nodes u ≡ Some n → is_short n ≡ true → Reserves (setting_of s).total u keys after_keys upto → ReservedAmong nodes u upto after
      → record { keys = after_keys; nodes = after; directions = ds; crafted = crafted; published = last } ≡ ready (setting_of s) w event
  is_reserved event n upto after_keys after on acts at few keyed among =
      let x = setting_of s in
      let me : n.fixed.me ≡ u = node_is nodes u n at in
      let same : among.old ≡ n = same_some among.old n (sym among.is_there ∙ at) in
      let here : ready x w event ≡ reserved x w n =
      ap (λ t. cond t (reserved_if x w (node_in nodes (acting event))) w) on
      ∙ ap (λ (o : Option NodeState). reserved_if x w o) (ap (node_in nodes) acts ∙ at)
      ∙ ap (λ t. cond t (reserved x w n) w) few in
      let keys_are : after_keys ≡ with_numbers keys n.fixed.me (after_more x.total (numbers_at keys n.fixed.me)) =
      keyed.1 ∙ ap (λ (v : NodeId). with_numbers keys v (after_more x.total (numbers_at keys v))) (sym me) in
      let nodes_are : after ≡ with_node nodes n.fixed.me (extended n (next_bound x.total (numbers_at keys n.fixed.me))) =
      among.nodes_are
      ∙ ap₂ (λ (m : NodeState) (k : ℕ). with_node nodes u (extended m k)) same keyed.0
      ∙ ap (λ (v : NodeId). with_node nodes v (extended n (next_bound x.total (numbers_at keys v)))) (sym me) in
      rw (keys_are, nodes_are) (sym here)
    where
      same_some : (a b : NodeState) → Some a ≡ Some b → a ≡ b
      same_some a b e = cc

  -- the node may have the indexes that its file gives
  pub can_reserve : (n : NodeState) (upto : ℕ) (after_keys : List Numbers) → IsFiled s keys u n → node_in nodes u ≡ Some n
      → Reserves (setting_of s).total u keys after_keys upto → CanReserve nodes u upto
  can_reserve n upto after_keys filed at keyed =
      let bound = filed.bound in
      let total = filed.total in
      let upto_is = keyed.0 in
      let most = filed.file.bound in
      record { node = n; is_there = at; forward = omega (arith, bound, upto_is, most); within = omega (arith, total, upto_is) }

  -- and its file has some
  pub some_left : (n : NodeState) → IsFiled s keys u n → is_short n ≡ true → (numbers_at keys u).bound < (setting_of s).total
  some_left n filed few =
      let bound = filed.bound in
      let total = filed.total in
      let below : n.signer.bound < n.signer.total =
      grind (arith, nat_tests, right_true (nat_lt (n.signer.bound - n.signer.index) LEAST_LEFT) (nat_lt n.signer.bound n.signer.total) few) in
      omega (arith, bound, total, below)
    where
      right_true : (a b : Bool) → (a && b) ≡ true → b ≡ true
      right_true true b e = e
      right_true false b e = absurd (let f : false ≡ true = e in cc)
