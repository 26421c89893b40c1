-- Each event that may happen has a turn: so the definitions of runs leave no event of a schedule without one.
use Rattle.std.specs.Prelude.{ℕ, ◌<◌, IsTrue, List, length}
use Rattle.sp_base.specs.declared.id.NodeId.{NodeId}
use Rattle.sp_rules.specs.Arts.{Arts}
use Rattle.sp_rules.specs.Masks.{Choice, IsChoice, graph_of}
use Rattle.sp_rules.specs.Weights.{WeightState}
use Rattle.sp_rules.specs.declared.node.TheConstants.{MAX_CALLS}
use Rattle.sp_runs.specs.Runs.{Clean, InRange, Turn, is_other}
use Rattle.sp_runs.specs.Settings.{Setting, SettingFits, is_correct}
use Rattle.sp_runs.specs.Worlds.{World}
use Rattle.sp_journal.specs.declared.entry.Entry.{Entry}
use Rattle.sp_schedule_events.specs.declared.event.Event.{Event}
use Rattle.laws_runs.specs.Premises.{Carries}

-- whatever the weights are, there is a choice of edges for a message of a correct node to any other, of priority or on paths: the cheapest disjoint paths, or
-- how many there are
abbrev pub HaveChoices : Setting → Type 0
HaveChoices x = (weights : WeightState) (s d : NodeId) (paths : ℕ) → IsTrue (is_correct x s) → IsTrue (is_other x s d)
    → (choice : Choice) × IsChoice weights (graph_of x.topology weights) s d paths choice

-- the event has a turn there
pub record Happens (arts : Arts) (x : Setting) (es : List Event) (old : World) (event : Event) : Type 0 where
  pub entry : Entry
  pub new : World
  pub turn : Turn arts x old event entry new

-- after fewer events than a node answers calls
abbrev pub EachEventHasATurn : Type 0
EachEventHasATurn = (arts : Arts) (x : Setting) (es : List Event) (js : List Entry) (w : World) → SettingFits arts x → Carries x.topology.format arts
    → HaveChoices x
    → Clean arts x es js w → length es < MAX_CALLS → (e : Event) → InRange x es e → Happens arts x es w e
