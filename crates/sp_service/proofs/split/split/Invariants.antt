use Rattle.std.proofs.Common.{◌≡◌, ◌<◌, ℕ, false}
use Rattle.sp_service.specs.Splits.{is_marked}
use Rattle.sp_service.proofs.split.split.Given as goal

abbrev pub invariant-places : goal.invariant-places
invariant-places l = (q : ℕ) → q < l.place → is_marked l.text q ≡ false
