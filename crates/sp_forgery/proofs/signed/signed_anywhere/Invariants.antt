use Rattle.std.proofs.Common.{◌≡◌, length}
use Rattle.sp_runs.specs.Forgery.{is_among}
use Rattle.sp_runs.specs.Told.{signed}
use Rattle.sp_forgery.proofs.signed.signed_anywhere.Given as goal

abbrev pub invariant-events : goal.invariant-events
invariant-events l = is_among l.message (signed l.events l.journal l.node) ≡ is_among l.fn.message (signed l.fn.events l.fn.journal l.fn.node)

abbrev pub decreases-events : goal.decreases-events
decreases-events l = length l.events
