use Rattle.std.proofs.Common.{◌≡◌, ◌-◌, ◌*◌, ◌≤◌, map, sum}
use Rattle.std.specs.List.{range_with_len}
use Rattle.sp_ots.specs.Parameters.{width, last_step}
use Rattle.sp_ots.specs.Strings.{coef}
use Rattle.sp_ots.proofs.digits.checksum.Given as goal

abbrev pub invariant-digits : goal.invariant-digits
invariant-digits l = record {
  sum : l.distance ≡ sum (map (λ i. last_step l.param - coef l.hash i (width l.param)) (range_with_len 0 l.i));
  most : l.distance ≤ 255 * l.i;
}
