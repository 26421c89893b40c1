use Rattle.std.proofs.Common.{◌≡◌, ◌≤◌, All, length, map, take}
use Rattle.sp_ots.specs.Lanes.{lanes}
use Rattle.sp_ots.specs.Blocks.{block_at}
use Rattle.sp_ots.proofs.long.blocks_at.Given as goal

abbrev pub invariant-lanes : goal.invariant-lanes
invariant-lanes g l = record {
  count : length l.cut ≡ lanes;
  made : take l.k l.cut ≡ map (λ m. block_at (take l.len m) l.n) (take l.k l.messages);
  long : All (λ m. l.len ≤ length m) (take l.k l.messages);
}
