use Rattle.std.proofs.Common.{below_more, sym, ◌∙◌}
use Rattle.sp_service.proofs.split.split.Goals as goal

pub places-preserved : goal.places-preserved
places-preserved c = below_more _ _ c.places.invariant (sym c.is_marked.ensures ∙ c.if-is_marked.false)
