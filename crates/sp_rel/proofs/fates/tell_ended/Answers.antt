use Rattle.std.proofs.Common.{ap, arith, length, ◌∙◌}
use Rattle.std.proofs.lemmas.List.Folds.{length-flat_map-take}
use Rattle.sp_rel.specs.Fates.{ended_row}
use Rattle.sp_rel.specs.Rows.{RowState}
use Rattle.sp_rules.specs.Told.{told}
use Rattle.sp_rel.proofs.FateLemmas.{told_more}
use Rattle.sp_rel.proofs.fates.tell_ended.Goals as goal

pub tell_end-requires : goal.tell_end-requires
tell_end-requires c =
    let row = c.row-item.result in
    omega (
      arith,
      c.requires,
      ap (λ o. o.room) c.rows.invariant,
      length-flat_map-take (ended_row c.args.kind c.args.fate.now) c.args.rows.now c.rows.row-index row (omega arith),
      ap (λ (r : RowState). length (ended_row c.args.kind c.args.fate.now r)) c.row-item.is,
    )

pub rows-preserved : goal.rows-preserved
rows-preserved c =
    let row = c.row-item.result in
    told_more (ended_row c.args.kind c.args.fate.now) c.args.effects.now c.rows.effects c.tell_end.new.effects c.args.rows.now c.rows.row-index row (omega arith)
    c.rows.invariant (c.tell_end.ensures ∙ ap (λ (r : RowState). told c.rows.effects (ended_row c.args.kind c.args.fate.now r)) c.row-item.is)
