use Rattle.std.proofs.Common.{◌≤◌, ℕ}
use Rattle.sp_audit.specs.Firsts.{ComesOnce, effects_to}
use Rattle.sp_audit.specs.Lists.{numbers}
use Rattle.sp_audit.specs.Seen.{AreSeen}
use Rattle.sp_audit.proofs.once.once_first.Given as goal

abbrev pub invariant-events : goal.invariant-events
invariant-events l = record {
  seen : AreSeen l.seen (numbers l.s (effects_to l.events l.journal l.u l.place));
  kept : (m : ℕ) → m ≤ l.place → ComesOnce l.events l.journal l.s l.u m;
}
