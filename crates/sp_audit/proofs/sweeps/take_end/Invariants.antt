use Rattle.std.proofs.Common.{◌≡◌, false, take}
use Rattle.std.specs.List.{list_any}
use Rattle.sp_rules.specs.declared.kflow.FlowKind.TheVariants.{Plain}
use Rattle.sp_runs.specs.Rounds.{is_take}
use Rattle.sp_audit.proofs.sweeps.take_end.Given as goal

abbrev pub invariant-events : goal.invariant-events
invariant-events l = list_any (is_take Plain l.flow.dst l.flow.src) (take l.place l.during) ≡ false
