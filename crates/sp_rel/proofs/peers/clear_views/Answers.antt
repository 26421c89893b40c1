use Rattle.std.proofs.Common.{◌∙◌, ap, arith, set, sym}
use Rattle.std.proofs.lemmas.List.Edits.{map_over_more}
use Rattle.sp_rules.specs.Rel.{View, no_view, viewed}
use Rattle.sp_rel.proofs.peers.clear_views.Goals as goal

pub views-preserved : goal.views-preserved
views-preserved c =
    let item = c.view-item.result in
    ap (λ (w : View). set c.views.views c.views.view-index w) (c.clear.ensures ∙ ap (λ (w : View). no_view (viewed w)) (sym c.view-item.is))
    ∙ map_over_more (λ (w : View). no_view (viewed w)) c.args.views.now c.views.views c.views.view-index item (omega arith) c.views.invariant c.view-item.is
