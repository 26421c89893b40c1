use Rattle.std.proofs.Common.{◌≡◌, length, take, map}
use Rattle.std.specs.List.{range_with_len}
use Rattle.sp_ots.specs.Keys.{private_start}
use Rattle.sp_ots.proofs.keys.private_starts_one_by_one.Given as goal

abbrev pub invariant-chains : goal.invariant-chains
invariant-chains l = record {
  long : length l.starts ≡ length l.fn.starts;
  made : take l.i l.starts ≡ map (private_start l.id l.q l.seed) (range_with_len 0 l.i);
}
