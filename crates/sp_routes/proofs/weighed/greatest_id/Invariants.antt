use Rattle.std.proofs.Common.{◌≡◌, drop, max}
use Rattle.sp_rules.specs.Masks.{greatest_id}
use Rattle.sp_routes.proofs.weighed.greatest_id.Given as goal

abbrev pub invariant-nodes : goal.invariant-nodes
invariant-nodes l = max l.greatest (greatest_id (drop l.node-index l.nodes)) ≡ greatest_id l.nodes
