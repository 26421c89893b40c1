use Rattle.sp_text.proofs.FieldLemmas.{out_of_range}
use Rattle.sp_text.proofs.named_line.number_in.Goals as goal

pub returns-else-low-n : goal.returns-else-low-n
returns-else-low-n c =
    out_of_range _ _ _ _ c.in_ok-n.ensures.small c.ranges.high.fits c.in_ok-n.ensures.found c.else-low-n.either
