use Rattle.std.proofs.Common.{◌∙◌, ap, arith, set, sym}
use Rattle.std.proofs.lemmas.List.Edits.{map_over_more}
use Rattle.sp_rules.specs.Rel.{View, view_less}
use Rattle.sp_rel.proofs.peers.restart_views.Goals as goal

pub views-preserved : goal.views-preserved
views-preserved c =
    let item = c.view-item.result in
    ap (λ (w : View). set c.views.views c.views.view-index w) (c.restart.ensures ∙ ap (view_less c.args.node) (sym c.view-item.is))
    ∙ map_over_more (view_less c.args.node) c.args.views.now c.views.views c.views.view-index item (omega arith) c.views.invariant c.view-item.is
