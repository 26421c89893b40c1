-- Why an audit is refused: at the first event that breaks a promise.
use Rattle.std.specs.Prelude.{ℕ, ◌<◌, ◌≤◌, List, length, take}
use Rattle.laws_runs.specs.Good.{IsGood}
use Rattle.sp_journal.specs.declared.entry.Entry.{Entry}
use Rattle.sp_runs.specs.Settings.{Setting}
use Rattle.sp_schedule_events.specs.declared.event.Event.{Event}
use Rattle.sp_audit.specs.declared.refused.AuditRefused.{AuditRefused}
use Rattle.sp_audit.specs.declared.refused.AuditRefused.TheVariants as refusals

-- the event of this number, counted from 1, is the first that breaks one
pub record IsFirstBroken (x : Setting) (es : List Event) (js : List Entry) (number : ℕ) : Type 0 where
  pub there : (1 ≤ number) × (number ≤ length es)
  pub before : (n : ℕ) → n < number → IsGood x (take n es) (take n js)
  pub broken : IsGood x (take number es) (take number js) → ⊥

-- why the audit of a run is refused
abbrev pub IsRefusal : Setting → List Event → List Entry → AuditRefused → Type 0
IsRefusal x es js (refusals.Broken number) = IsFirstBroken x es js number
IsRefusal x es js refusals.NotPath = ⊥
IsRefusal x es js refusals.Memory = Unit {0}
