use Rattle.std.proofs.Common.{◌≡◌, ◌++◌, take}
use Rattle.sp_rules.specs.Rel.{flows_from}
use Rattle.sp_rel.proofs.pairs.push_flows_from.Given as goal

abbrev pub invariant-destinations : goal.invariant-destinations
invariant-destinations l = l.pairs.items ≡ l.fn.pairs.items ++ flows_from l.src (take l.dst-index l.nodes)
