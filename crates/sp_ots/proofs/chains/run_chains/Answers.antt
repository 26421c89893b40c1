use Rattle.std.proofs.Common.{◌∙◌}
use Rattle.sp_ots.proofs.TwoLeaves.{of_one_leaf}
use Rattle.sp_ots.proofs.chains.run_chains.Goals as goal

pub returns : goal.returns
returns c = c.run_both.ensures ∙ of_one_leaf c.args.id.now c.args.q c.args.from.now c.args.to.now c.args.elements.now
