use Rattle.std.proofs.Common.{◌≡◌, ◌≤◌, ◌+◌, false, drop}
use Rattle.sp_audit.specs.Ends.{sweep_end}
use Rattle.sp_audit.proofs.sweeps.sweep_end.Given as goal

abbrev pub invariant-events : goal.invariant-events
invariant-events l = record {
  walked : sweep_end l.least l.u l.v l.made 0 false l.during ≡ l.place + sweep_end l.least l.u l.v l.walk.made l.walk.good l.walk.waits (drop l.place l.during);
  made : l.walk.made ≤ l.made + l.place;
  good : l.walk.good ≤ l.place;
}
