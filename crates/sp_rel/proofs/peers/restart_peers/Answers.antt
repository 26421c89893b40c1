use Rattle.std.proofs.Common.{◌∙◌, ap, arith, set, sym}
use Rattle.std.proofs.lemmas.List.Edits.{map_over_more}
use Rattle.sp_rules.specs.Rel.{RelPeer, views_less}
use Rattle.sp_rel.proofs.peers.restart_peers.Goals as goal

pub rows-preserved : goal.rows-preserved
rows-preserved c =
    let item = c.row-item.result in
    ap (λ (w : RelPeer). set c.rows.rows c.rows.row-index w) (c.restart.ensures ∙ ap (views_less c.args.node) (sym c.row-item.is))
    ∙ map_over_more (views_less c.args.node) c.args.rows.now c.rows.rows c.rows.row-index item (omega arith) c.rows.invariant c.row-item.is
