use Rattle.std.proofs.Common.{ℕ, List, length, sym, ap, ◌∙◌}
use Rattle.sp_measure.specs.Costs.{weight_of}
use Rattle.sp_measure.specs.declared.weight.TheConstants.{WEIGHED_COSTS}
use Rattle.laws_measure.specs.Ends.{End, after, at_start, end_of}
use Rattle.laws_measure.proofs.CostLemmas.{due_facts, long_enough, minimum_is}
use Rattle.laws_measure.proofs.KeptLemmas.{each_is_kept}
use Rattle.laws_measure.proofs.weights_are_of_the_last.Goals as goal

pub returns : goal.returns
returns c h key u v b d interval moves first minimum held now weight due =
    let e : End = end_of first (after h interval (at_start key u v b d) moves) in
    let costs = (each_is_kept h key u v b d interval moves first).costs in
    let is = due_facts e.meter minimum held now interval weight due in (
      long_enough WEIGHED_COSTS e.costs (ap length (sym costs) ∙ is.closed),
      sym is.made ∙ ap (λ (xs : List ℕ). weight_of xs minimum) costs,
      minimum_is e.meter.costs minimum weight is.made,
    )
