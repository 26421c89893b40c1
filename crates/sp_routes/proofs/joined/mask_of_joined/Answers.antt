use Rattle.std.proofs.Common.{◌+◌, true, false, sym, ap, subst, ◌∙◌, arith}
use Rattle.std.specs.Int.RustNames.{bit_or}
use Rattle.sp_msg.specs.Masks.{bits}
use Rattle.sp_routes.proofs.JoinedLemmas.{IsMaskTo, all_edges, edge_in, edge_out, joins_here}
use Rattle.sp_routes.proofs.joined.mask_of_joined.Goals as goal
use Rattle.sp_routes.proofs.joined.mask_of_joined.Goals.{then-joins, else-joins}

pub edges-preserved : goal.edges-preserved
edges-preserved c =
    let flags = c.args.flags.now in
    let edges = c.args.edges.now in
    let n = c.edges.place in
    elim c.if-joins.branch [
      | then-joins w ↦ subst (IsMaskTo flags edges (n + 1)) (sym (ap bits w.mask-is ∙ w.with-mask.ensures ∙ ap (bit_or (bits c.edges.mask)) w.bit.ensures))
          (edge_in flags edges n (bits c.edges.mask) c.edges.invariant
          (joins_here flags edges n _ true (omega (arith, c.edges-test.true)) (sym c.joins.ensures ∙ w.if-joins.true)))
      | else-joins w ↦ subst (IsMaskTo flags edges (n + 1)) (sym (ap bits w.mask-is))
          (edge_out flags edges n (bits c.edges.mask) c.edges.invariant
          (joins_here flags edges n _ false (omega (arith, c.edges-test.true)) (sym c.joins.ensures ∙ w.if-joins.false)))
    ]

pub returns : goal.returns
returns c = all_edges c.args.flags.now c.args.edges.now c.edges.place (bits c.edges.mask) (omega (arith, c.edges-test.false)) c.edges.invariant
