use Rattle.std.proofs.Common.{◌≡◌, map, take}
use Rattle.sp_sign.specs.Checker.{as_key}
use Rattle.sp_sign.proofs.checker.Checker.make.Given as goal

abbrev pub invariant-nodes : goal.invariant-nodes
invariant-nodes l = map as_key l.nodes.items ≡ take l.named-index l.keys
