-- The laws of every run without forgery, for any arts that fit its nodes.
use Rattle.std.specs.Prelude.{◌≡◌, List, Some}
use Rattle.sp_base.specs.declared.id.NodeId.{NodeId}
use Rattle.sp_rules.specs.Arts.{Arts}
use Rattle.sp_rules.specs.Node.{NodeState}
use Rattle.sp_runs.specs.Bounds.{IsBounded}
use Rattle.sp_runs.specs.Runs.{Clean, IsForgedAt}
use Rattle.sp_runs.specs.Settings.{Setting, SettingFits}
use Rattle.sp_runs.specs.Worlds.{World, node_in}
use Rattle.sp_journal.specs.declared.entry.Entry.{Entry}
use Rattle.sp_schedule_events.specs.declared.event.Event.{Event}
use Rattle.sp_schedule_events.specs.declared.event.Event.TheVariants as events
use Rattle.sp_runs.specs.declared.what.What.{What}
use Rattle.laws_runs.specs.Premises.{Carries}
use Rattle.laws_runs.specs.Signs.{Signs}

-- ---- forgery

-- the adversary brings bytes of its own
abbrev pub IsHostile : Event → Type 0
IsHostile (events.Flip u v number back bit) = Unit {0}
IsHostile (events.Inject u v bytes) = Unit {0}
IsHostile (events.Craft c v key body) = Unit {0}
IsHostile (events.CraftStatus c v s d base have) = Unit {0}
IsHostile (events.CraftDocument c v key version weights) = Unit {0}
IsHostile _ = ⊥

-- what is forged after a clean run is never a pass, a publication, a poll, a client's call or a tick
abbrev pub OnlyTheAdversaryForges : Type 0
OnlyTheAdversaryForges = (arts : Arts) (x : Setting) (es : List Event) (js : List Entry) (w : World) (e : Event) (what : What) → SettingFits arts x
    → Carries x.topology.format arts → Clean arts x es js w → IsForgedAt arts x es js w e what → IsHostile e

-- ---- bounds

-- of each correct node
abbrev pub BuffersStayBounded : Type 0
BuffersStayBounded = (arts : Arts) (x : Setting) (es : List Event) (js : List Entry) (w : World) → SettingFits arts x → Carries x.topology.format arts
    → Clean arts x es js w
    → (u : NodeId) (n : NodeState) → node_in w.nodes u ≡ Some n → IsBounded x u n

-- they follow from what each turn keeps of nodes, so they have no part of their own
abbrev pub BoundsFollow : Type 0
BoundsFollow = (arts : Arts) (x : Setting) (es : List Event) (js : List Entry) (w : World) → Signs arts x es js w
    → (u : NodeId) (n : NodeState) → node_in w.nodes u ≡ Some n → IsBounded x u n
