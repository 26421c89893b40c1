use Rattle.std.proofs.Common.{◌++◌, [], ◌∷◌, sym, ◌∙◌, arith}
use Rattle.std.proofs.lemmas.List.{length-set, map_more, take_more_set}
use Rattle.sha2.specs.Sha256.{digest_bytes}
use Rattle.sp_ots.proofs.Windows.{lane_bytes}
use Rattle.sp_ots.proofs.block.rows.Goals as goal

pub rows-preserved : goal.rows-preserved
rows-preserved c = (
  length-set c.rows.out c.rows.k c.row.result ∙ c.rows.invariant.0,
  λ bs f count ev.
      take_more_set c.rows.out c.rows.k c.row.result (omega (arith, c.rows.invariant.0))
      ∙ (λ j. c.rows.invariant.1 bs f count ev j ++ (c.row.ensures ∙ lane_bytes bs c.args.v.now f c.rows.k (omega arith) ev) j ∷ [])
      ∙ sym (map_more (λ b. digest_bytes (f b) 8) bs c.rows.k [] (omega arith)),
)
