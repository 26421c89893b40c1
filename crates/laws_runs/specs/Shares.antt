-- Evictions over a run.
use Rattle.std.specs.Prelude.{ℕ, List, []}
use Rattle.sp_base.specs.declared.id.NodeId.{NodeId}
use Rattle.sp_rules.specs.Arts.{Arts}
use Rattle.sp_runs.specs.Held.{AreShares}
use Rattle.sp_runs.specs.Told.{effects_at}
use Rattle.sp_runs.specs.Runs.{Clean}
use Rattle.sp_runs.specs.Settings.{Setting, StaysUp}
use Rattle.sp_runs.specs.Worlds.{World}
use Rattle.sp_journal.specs.declared.entry.Entry.{Entry}
use Rattle.sp_schedule_events.specs.declared.event.Event.{Event}
use Rattle.laws_runs.specs.Premises.{Carries}

-- at each place of each node
abbrev pub EvictionsLeaveShares : Type 0
EvictionsLeaveShares = (arts : Arts) (x : Setting) (es : List Event) (js : List Entry) (w : World) → StaysUp arts x → Carries x.topology.format arts
    → Clean arts x es js w
    → (u : NodeId) (place : ℕ) → AreShares x.store place [] (effects_at es js u)
