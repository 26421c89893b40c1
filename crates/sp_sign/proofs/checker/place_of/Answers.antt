use Rattle.std.proofs.Common.{◌∙◌}
use Rattle.sp_sign.proofs.CheckerLemmas.{found_at}
use Rattle.sp_sign.proofs.checker.place_of.Goals as goal

pub returns-then-nodes-place-clause-some : goal.returns-then-nodes-place-clause-some
returns-then-nodes-place-clause-some c = record {
  within = c.nodes-test.true;
  key = λ n. c.nodes.invariant ∙ found_at c.args.node.0 c.args.nodes.now c.nodes.place c.index-nodes-place.result n c.nodes-test.true c.if-nodes-place.true;
}
