use Rattle.std.proofs.Common.{take}
use Rattle.sp_audit.specs.Tops.{IsTop}
use Rattle.sp_audit.proofs.top.top_of.Given as goal

abbrev pub invariant-events : goal.invariant-events
invariant-events l = IsTop (take l.place l.events) (take l.place l.journal) l.top
