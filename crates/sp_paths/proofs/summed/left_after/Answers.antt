use Rattle.sp_paths.proofs.Paid.{pay_step}
use Rattle.sp_paths.proofs.summed.left_after.Goals as goal

pub steps-preserved : goal.steps-preserved
steps-preserved c =
    pay_step c.args.edges.now c.args.path.now c.steps.rest.now c.args.cost c.steps.left c.weight_between-weight.result _ c.steps-test.true
    c.weight_between-weight.ensures c.if-left-weight.false c.steps.invariant
