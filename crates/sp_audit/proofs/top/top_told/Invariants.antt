use Rattle.std.proofs.Common.{◌≤◌, take}
use Rattle.std.specs.List.{All}
use Rattle.sp_audit.specs.Tops.{names}
use Rattle.sp_audit.proofs.top.top_told.Given as goal

abbrev pub invariant-effects : goal.invariant-effects
invariant-effects l = All (λ e. names e ≤ l.top) (take l.place l.effects)
