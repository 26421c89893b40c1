-- Evictions over a run whose nodes may start and stop: a place begins empty at each start.
use Rattle.std.specs.Prelude.{ℕ, ◌≡◌, List, [], ◌∷◌, ◌++◌, None, Some}
use Rattle.sp_base.specs.declared.id.NodeId.{NodeId}
use Rattle.sp_rules.specs.Arts.{Arts}
use Rattle.sp_rules.specs.Node.{NodeState}
use Rattle.sp_runs.specs.Held.{AreShares}
use Rattle.sp_runs.specs.Runs.{Clean, InRange, Turn, forged_in}
use Rattle.sp_runs.specs.Settings.{Setting, SettingFits}
use Rattle.sp_runs.specs.Worlds.{World, node_in}
use Rattle.sp_journal.specs.declared.entry.Entry.{Entry}
use Rattle.sp_schedule_events.specs.declared.event.Event.{Event}
use Rattle.laws_runs.specs.KeyFiles.{KeysStand}
use Rattle.laws_runs.specs.Places.{PlacesAre, Shelf, Steps, no_shelf, shelf, shelf_by, store_at}
use Rattle.laws_runs.specs.Premises.{Carries}
use Rattle.laws_runs.specs.Signs.{Signs}
use Rattle.laws_runs.specs.Since.{effects_since}

-- at each place of each node, since its last start. Said of each beginning of a run, that is each life
abbrev pub LifeEvictionsLeaveShares : Type 0
LifeEvictionsLeaveShares = (arts : Arts) (x : Setting) (es : List Event) (js : List Entry) (w : World) → SettingFits arts x → Carries x.topology.format arts
    → Clean arts x es js w
    → (u : NodeId) (place : ℕ) → AreShares x.store place [] (effects_since es js u)

-- ---- what turns keep of it

-- where the effects of a node since its last start lead a place
abbrev pub played_since : List Event → List Entry → NodeId → ℕ → Shelf
played_since es js u place = shelf_by place no_shelf (effects_since es js u)

-- of all places: what each holds is what its effects say, and each eviction among these left a share
pub record LifeSharePart (x : Setting) (es : List Event) (js : List Entry) (w : World) : Type 0 where
  pub nodes : (u : NodeId) (n : NodeState) → node_in w.nodes u ≡ Some n → PlacesAre x.store n.parts.prio
  pub held_is : (u : NodeId) (n : NodeState) (place : ℕ) → node_in w.nodes u ≡ Some n → played_since es js u place ≡ shelf (store_at n.parts.prio place)
  pub shares : (u : NodeId) (place : ℕ) → Steps x.store place no_shelf (effects_since es js u)

-- each turn of which nothing is forged keeps it, where key files and signed objects are as they are in a run; and each eviction leaves a share
pub record TurnsKeepShares : Type 0 where
  pub turn : (arts : Arts) (x : Setting) (es : List Event) (js : List Entry) (old : World) (e : Event) (j : Entry) (new : World)
      → SettingFits arts x → Carries x.topology.format arts
      → KeysStand x es old → Signs arts x es js old → InRange x es e → (turn : Turn arts x old e j new) → forged_in arts x es js old e j new turn ≡ None
      → LifeSharePart x es js old → LifeSharePart x (es ++ e ∷ []) (js ++ j ∷ []) new
  pub claims : (x : Setting) (es : List Event) (js : List Entry) (w : World) → LifeSharePart x es js w
      → (u : NodeId) (place : ℕ) → AreShares x.store place [] (effects_since es js u)
