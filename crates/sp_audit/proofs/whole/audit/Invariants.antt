use Rattle.std.proofs.Common.{◌<◌, ◌+◌, ℕ, length}
use Rattle.sp_audit.specs.Firsts.{IsFirst, KeepsAt}
use Rattle.sp_runs.specs.Scenarios.{setting_of}
use Rattle.sp_audit.proofs.whole.audit.Given as goal

abbrev pub invariant-numbers : goal.invariant-numbers
invariant-numbers l =
    IsFirst (λ m. (a : ℕ) → a < l.a → (b : ℕ) → b < l.top + 1 → KeepsAt (setting_of l.scenario) l.events l.journal a b m) (length l.events) l.first
