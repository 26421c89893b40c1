use Rattle.sp_msg.specs.Masks.{bits}
use Rattle.sp_graph.proofs.MaskLemmas.{next_step}
use Rattle.sp_graph.proofs.graph.Graph.mask_of.Goals as goal

pub mask_between-requires : goal.mask_between-requires
mask_between-requires c = rw c.as_slice-edges.ensures c.requires.few

pub steps-preserved : goal.steps-preserved
steps-preserved c =
    rw c.with-mask.ensures
    (next_step c.args.self.now c.requires c.as_slice-edges.result.now c.as_slice-edges.ensures c.steps.rest.now c.args.path.now (bits c.steps.mask)
    (bits c.mask_between.result) _ _ c.steps-test.true c.mask_between.ensures c.steps.invariant)
