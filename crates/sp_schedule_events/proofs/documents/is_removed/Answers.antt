use Rattle.std.proofs.Common.{false, refl, sym, true, ◌∙◌}
use Rattle.sp_schedule_events.proofs.DocumentLemmas.{removed_is}
use Rattle.sp_schedule_events.proofs.documents.is_removed.Goals as goal

pub returns-then-has_edge : goal.returns-then-has_edge
returns-then-has_edge c =
    removed_is c.args.edges.now c.args.weights.now c.args.u.0 true c.has_open_edge.result (sym c.if-has_edge.true ∙ c.has_edge.ensures) c.has_open_edge.ensures

pub returns-else-has_edge : goal.returns-else-has_edge
returns-else-has_edge c =
    c.if-has_edge.false ∙ removed_is c.args.edges.now c.args.weights.now c.args.u.0 false _ (sym c.if-has_edge.false ∙ c.has_edge.ensures) refl
