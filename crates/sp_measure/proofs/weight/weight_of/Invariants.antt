use Rattle.std.proofs.Common.{◌≡◌, ◌≤◌, ◌*◌, take}
use Rattle.std.specs.List.{sum}
use Rattle.sp_measure.specs.declared.opening.TheConstants.{MAX_COST}
use Rattle.sp_measure.proofs.weight.weight_of.Given as goal

abbrev pub invariant-costs : goal.invariant-costs
invariant-costs l = record {
  summed : l.sum ≡ sum (take l.cost-index l.costs);
  small : l.sum ≤ MAX_COST * l.cost-index;
}
