use Rattle.std.proofs.Common.{◌≡◌, replicate, None}
use Rattle.sp_lives.proofs.origins.Origins.new.Given as goal

abbrev pub invariant-cycles : goal.invariant-cycles
invariant-cycles l = l.cycles.items ≡ replicate l.counter None
