-- How often a path was served for the plain flow between its ends, as an auditor counts it.
use Rattle.std.specs.Prelude.{ℕ, ◌≡◌, ◌+◌, ◌-◌, ◌||◌, Bool, List, drop, not, take}
use Rattle.std.specs.List.{list_any}
use Rattle.sp_base.specs.declared.id.Flow.{Flow}
use Rattle.sp_base.specs.declared.id.NodeId.{NodeId}
use Rattle.sp_rules.specs.declared.kflow.FlowKind.TheVariants.{Plain}
use Rattle.sp_runs.specs.Paths.{IsCorrectPath}
use Rattle.sp_runs.specs.Rounds.{CompleteRounds, flow_count, has_correct_ends, is_send}
use Rattle.sp_runs.specs.Settings.{Setting}
use Rattle.sp_schedule_events.specs.declared.event.Event.{Event}
use Rattle.sp_audit.specs.declared.refused.AuditRefused.{AuditRefused}
use Rattle.sp_audit.specs.declared.refused.AuditRefused.TheVariants as refusals

-- So many complete rounds of the path follow one after another among the events from this number on, counted from 1, and one more don't.
pub record IsCount (x : Setting) (events : List Event) (path : List NodeId) (from n : ℕ) : Type 0 where
  pub source : NodeId
  pub target : NodeId
  pub is_path : IsCorrectPath x source target path
  pub counted : CompleteRounds Plain (flow_count Plain x events) source target path n (take (from - 1) events) (drop (from - 1) events)
  pub no_more : CompleteRounds Plain (flow_count Plain x events) source target path (n + 1) (take (from - 1) events) (drop (from - 1) events) → ⊥

-- There is no count where the nodes are no path: the one refusal.
pub record IsNoPath (x : Setting) (path : List NodeId) (refused : AuditRefused) : Type 0 where
  pub says : refused ≡ refusals.NotPath
  pub none : (s d : NodeId) → IsCorrectPath x s d path → ⊥

-- the plain flow may ever wait for its turn
abbrev pub may_wait : Setting → List Event → Flow → Bool
may_wait x es flow = not (has_correct_ends x flow) || list_any (is_send Plain flow) es
