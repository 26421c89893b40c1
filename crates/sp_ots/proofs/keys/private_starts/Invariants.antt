use Rattle.std.proofs.Common.{◌≡◌, ◌*◌, length, map, min, take}
use Rattle.std.specs.List.{range_with_len}
use Rattle.sp_ots.specs.Lanes.{lanes}
use Rattle.sp_ots.specs.Keys.{private_start}
use Rattle.sp_ots.proofs.keys.private_starts.Given as goal

abbrev pub invariant-groups : goal.invariant-groups
invariant-groups l = record {
  long : length l.starts ≡ length l.fn.starts;
  made : take (min (length l.fn.starts) (lanes * l.g)) l.starts
      ≡ map (private_start l.id l.q l.seed) (range_with_len 0 (min (length l.fn.starts) (lanes * l.g)));
}
