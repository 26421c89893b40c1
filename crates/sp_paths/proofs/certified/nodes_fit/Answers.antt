use Rattle.std.proofs.lemmas.Bool.{iff_false}
use Rattle.std.proofs.Common.{◌+◌, arith}
use Rattle.sp_graph.specs.Split.{node_arc}
use Rattle.sp_paths.specs.Tests.{FitsAt}
use Rattle.sp_paths.proofs.FitLemmas.{one_node_more}
use Rattle.sp_paths.proofs.certified.nodes_fit.Goals as goal

pub returns-then-not-node_fits : goal.returns-then-not-node_fits
returns-then-not-node_fits c = (
  λ e. absurd (let x = e in cc),
  λ all. absurd
      (iff_false c.node_fits.ensures c.if-not-node_fits.true
      (all (record { 0 = c.loop-place.place + 1 }) (omega arith, omega (arith, c.loop-place-test.true)))),
)

pub loop-place-preserved : goal.loop-place-preserved
loop-place-preserved c =
    one_node_more (λ v. FitsAt c.args.graph.now c.args.s c.args.t c.args.paths.now (node_arc v)) c.loop-place.place c.loop-place.invariant
    (c.node_fits.ensures.0 c.if-not-node_fits.false)
