use Rattle.std.proofs.Common.{◌≡◌, length}
use Rattle.sp_paths.specs.Tests.{has_step}
use Rattle.sp_paths.proofs.apart.has_step.Given as goal

abbrev pub invariant-steps : goal.invariant-steps
invariant-steps l = has_step l.rest l.fn.u l.fn.v ≡ has_step l.path l.fn.u l.fn.v

abbrev pub decreases-steps : goal.decreases-steps
decreases-steps l = length l.rest
