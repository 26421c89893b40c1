use Rattle.std.proofs.Common.{take}
use Rattle.std.specs.List.{flat_map}
use Rattle.sp_audit.specs.Agreed.{Agrees}
use Rattle.sp_runs.specs.Told.{delivered_by}
use Rattle.sp_audit.proofs.messages.agreed.Given as goal

abbrev pub invariant-effects : goal.invariant-effects
invariant-effects l = Agrees l.sent l.count (flat_map (delivered_by l.kind l.s) (take l.place l.effects)) l.delivered
