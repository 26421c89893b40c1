use Rattle.std.proofs.Common.{◌≡◌, length, map, take}
use Rattle.std.specs.List.{range_with_len}
use Rattle.sha2.specs.Sha256.{sha256}
use Rattle.sp_ots.specs.Lanes.{lanes}
use Rattle.sp_ots.specs.Keys.{private_start}
use Rattle.sp_ots.proofs.keys.starts_from.Given as goal

abbrev pub invariant-lanes : goal.invariant-lanes
invariant-lanes l = record {
  long : length l.messages ≡ lanes;
  made : map sha256 (take l.k l.messages) ≡ map (private_start l.id l.q l.seed) (range_with_len l.first l.k);
}
