use Rattle.std.proofs.Common.{◌≡◌, take}
use Rattle.std.specs.Prelude.{vec_capacity}
use Rattle.sp_rel.proofs.fates.refill.Given as goal

abbrev pub invariant-nodes : goal.invariant-nodes
invariant-nodes l = record {
  items : l.removed.items ≡ take l.node-index l.nodes;
  capacity : vec_capacity l.removed ≡ vec_capacity l.fn.removed;
}
