use Rattle.std.proofs.Common.{◌≡◌, length}
use Rattle.sp_paths.specs.Tests.{goes}
use Rattle.sp_paths.proofs.used.goes.Given as goal

abbrev pub invariant-steps : goal.invariant-steps
invariant-steps l = goes l.rest l.fn.u l.fn.v ≡ goes l.path l.fn.u l.fn.v

abbrev pub decreases-steps : goal.decreases-steps
decreases-steps l = length l.rest
