-- Versions only rise: while a node stays in its life, it never comes to run under a lower version, and who is removed at it stays removed. A node that starts
-- again runs under the version that it is started with.
use Rattle.std.specs.Prelude.{◌≡◌, List, ◌++◌, Some}
use Rattle.sp_base.specs.declared.id.NodeId.{NodeId}
use Rattle.sp_rules.specs.Arts.{Arts}
use Rattle.sp_rules.specs.Node.{NodeState}
use Rattle.sp_runs.specs.Runs.{Clean}
use Rattle.sp_runs.specs.Settings.{Setting, SettingFits}
use Rattle.sp_runs.specs.Worlds.{World, node_in}
use Rattle.sp_journal.specs.declared.entry.Entry.{Entry}
use Rattle.sp_schedule_events.specs.declared.event.Event.{Event}
use Rattle.laws_node.specs.Withdrawals.{RisesTo}
use Rattle.laws_progress.specs.Calm.{StaysUpIn}
use Rattle.laws_runs.specs.Premises.{Carries}

abbrev pub VersionsNeverFall : Arts → Setting → Type 0
VersionsNeverFall arts x =
    -- a run without forgery, and how it went on
    (es : List Event) (js : List Entry) (w : World) (after : List Event) (more : List Entry) (v : World)
    → Clean arts x es js w → Clean arts x (es ++ after) (js ++ more) v
    → (u : NodeId) → StaysUpIn w after u → (n m : NodeState) → node_in w.nodes u ≡ Some n → node_in v.nodes u ≡ Some m → RisesTo n m

-- of any arts that carry bytes
abbrev pub VersionsRiseInLives : Type 0
VersionsRiseInLives = (arts : Arts) (x : Setting) → SettingFits arts x → Carries x.topology.format arts → VersionsNeverFall arts x
