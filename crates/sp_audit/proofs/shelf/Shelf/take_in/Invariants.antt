use Rattle.std.proofs.Common.{true, take}
use Rattle.sp_audit.specs.Shelves.{TakesAll}
use Rattle.sp_audit.proofs.shelf.Shelf.take_in.Given as goal

abbrev pub invariant-effects : goal.invariant-effects
invariant-effects l = TakesAll l.capacity l.p l.fn.self (take l.place l.effects) l.self true
