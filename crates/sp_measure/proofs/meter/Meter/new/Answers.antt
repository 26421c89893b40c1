use Rattle.std.proofs.Common.{refl, arith, ◌≤◌, ℕ}
use Rattle.std.proofs.lemmas.List.Elements.{All-replicate}
use Rattle.sp_measure.specs.declared.opening.TheConstants.{MAX_COST}
use Rattle.sp_measure.proofs.meter.Meter.new.Goals as goal

pub invariant_of-result : goal.invariant_of-result
invariant_of-result c = record {
  expects = refl;
  all_places = refl;
  within = omega arith;
  small = All-replicate (λ (cost : ℕ). cost ≤ MAX_COST) 32 0 (omega arith);
}
