use Rattle.std.proofs.Common.{true, take}
use Rattle.sp_audit.specs.Lists.{numbers}
use Rattle.sp_audit.specs.Seen.{TakesIn}
use Rattle.sp_audit.proofs.once.add_all.Given as goal

abbrev pub invariant-effects : goal.invariant-effects
invariant-effects l = TakesIn l.fn.seen (numbers l.s (take l.place l.effects)) l.seen true
