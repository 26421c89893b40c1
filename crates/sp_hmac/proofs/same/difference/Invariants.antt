use Rattle.std.proofs.Common.{◌≡◌}
use Rattle.sp_hmac.specs.Same.{difference}
use Rattle.sp_hmac.proofs.same.difference.Given as goal

abbrev pub invariant-bytes : goal.invariant-bytes
invariant-bytes l = l.difference ≡ difference l.tag l.expected l.i
