use Rattle.std.proofs.Common.{◌∙◌, ap, arith, set}
use Rattle.std.proofs.lemmas.List.{length-set}
use Rattle.std.proofs.lemmas.List.Edits.{map_over_more}
use Rattle.sp_rel.specs.Fates.{row_after}
use Rattle.sp_rel.specs.Rows.{RowState}
use Rattle.sp_rel.proofs.FateLemmas.{sound_more}
use Rattle.sp_rel.proofs.fates.meet_rows.Goals as goal

pub rows-preserved : goal.rows-preserved
rows-preserved c =
    let i = c.rows.at in
    let row = c.index_mut-row.result.now in
    let new = c.meet.new.self in
    record {
      rows = ap (λ (r : RowState). set c.rows.rows.items i r) c.meet.ensures
          ∙ map_over_more (row_after c.args.fate.now) c.args.rows.now.items c.rows.rows.items i row (omega arith) c.rows.invariant.rows
          c.index_mut-row.ensures.value;
      count = length-set c.rows.rows.items i new ∙ c.rows.invariant.count;
      active = length-set c.rows.active.items i c.is_active.result ∙ c.rows.invariant.active;
      due = length-set c.rows.due.items i c.is_due.result ∙ c.rows.invariant.due;
      sound = sound_more c.args.fate.now c.args.rows.now.items c.rows.rows.items c.args.active.now.items c.args.due.now.items c.rows.active.items
          c.rows.due.items i row new c.is_active.result c.is_due.result c.rows.invariant.sound (omega (arith, c.rows.invariant.count))
          c.index_mut-row.ensures.value c.meet.ensures
          c.is_active.ensures c.is_due.ensures;
    }
