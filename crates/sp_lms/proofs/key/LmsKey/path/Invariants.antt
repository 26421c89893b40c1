use Rattle.std.proofs.Common.{◌≡◌, ◌/◌, ◌^◌, length, take, map}
use Rattle.std.specs.List.{range_with_len}
use Rattle.sp_lms.specs.Trees.{tree_node, sibling}
use Rattle.sp_lms.specs.Keys.{seed_leaf}
use Rattle.sp_lms.proofs.key.LmsKey.path.Given as goal

abbrev pub invariant-levels : goal.invariant-levels
invariant-levels l = record {
  long : length l.path ≡ 15;
  number_is : l.number ≡ l.r / 2 ^ l.level;
  made : take l.level l.path
      ≡ map (λ k. tree_node l.self-inside.id (seed_leaf l.self-inside.lms l.self-inside.ots l.self-inside.id l.self-inside.seed) k (sibling (l.r / 2 ^ k)))
      (range_with_len 0 l.level);
}
