use Rattle.std.proofs.Common.{◌≡◌, ◌/◌, ◌^◌}
use Rattle.sp_lms.specs.Trees.{ancestor}
use Rattle.sp_lms.proofs.path.ancestor.Given as goal

abbrev pub invariant-levels : goal.invariant-levels
invariant-levels l = record {
  number_is : l.number ≡ l.r / 2 ^ l.level;
  value_is : l.value ≡ ancestor l.id l.siblings l.r l.node l.level;
}
