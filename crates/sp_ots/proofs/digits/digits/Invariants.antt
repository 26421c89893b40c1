use Rattle.std.proofs.Common.{◌≡◌, length, take, map}
use Rattle.std.specs.List.{range_with_len}
use Rattle.sp_ots.specs.Digits.{digit}
use Rattle.sp_ots.proofs.digits.digits.Given as goal

abbrev pub invariant-chains : goal.invariant-chains
invariant-chains l = record {
  long : length l.digits ≡ 265;
  made : take l.i l.digits ≡ map (digit l.param l.hash) (range_with_len 0 l.i);
}
