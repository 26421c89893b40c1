use Rattle.std.proofs.Common.{◌+◌, true, false, sym, ap, subst, ◌∙◌, arith}
use Rattle.std.specs.Int.RustNames.{bit_or}
use Rattle.sp_msg.specs.Masks.{bits}
use Rattle.sp_routes.proofs.OpenEdges.{IsOpenTo, edge_open, edge_shut}
use Rattle.sp_routes.proofs.chosen.open_edges.Goals as goal
use Rattle.sp_routes.proofs.chosen.open_edges.Goals.{then-not-is_withdrawn, else-not-is_withdrawn}

pub edges-preserved : goal.edges-preserved
edges-preserved c =
    let least = c.args.weights.now.least in
    let n = c.edges.place in
    let inside = c.edges-place-end.ensures.minima in
    elim c.if-not-is_withdrawn.branch [
      | then-not-is_withdrawn w ↦ subst (IsOpenTo least (n + 1)) (sym (ap bits w.mask-is ∙ w.with-mask.ensures ∙ ap (bit_or (bits c.edges.mask)) w.of.ensures))
          (edge_open least n (bits c.edges.mask) (omega (arith, c.edges-test.true, inside)) c.edges.invariant
          (sym c.is_withdrawn.ensures ∙ w.if-not-is_withdrawn.true))
      | else-not-is_withdrawn w ↦ subst (IsOpenTo least (n + 1)) (sym (ap bits w.mask-is))
          (edge_shut least n (bits c.edges.mask) (omega (arith, c.edges-test.true, inside)) c.edges.invariant
          (sym c.is_withdrawn.ensures ∙ w.if-not-is_withdrawn.false))
    ]
