use Rattle.std.proofs.Common.{length}
use Rattle.sp_msg.specs.Masks.{bits}
use Rattle.sp_graph.proofs.MaskLemmas.{IsMaskWith}
use Rattle.sp_graph.proofs.graph.Graph.mask_of.Given as goal

abbrev pub invariant-steps : goal.invariant-steps
invariant-steps l = IsMaskWith l.edges l.rest l.path (bits l.mask)

abbrev pub decreases-steps : goal.decreases-steps
decreases-steps l = length l.rest
