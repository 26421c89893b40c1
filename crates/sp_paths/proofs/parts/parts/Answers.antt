use Rattle.sp_paths.proofs.PartLists.{parts_more}
use Rattle.sp_paths.proofs.parts.parts.Goals as goal

pub loop-place-preserved : goal.loop-place-preserved
loop-place-preserved c =
    parts_more c.args.s c.args.t c.loop-place.place c.loop-place.parts.items c.push_part.new.parts.items c.push_part-in-loop-place.new.parts.items
    c.loop-place.invariant
    c.in_ok-push_part.ensures c.in_ok-push_part-2.ensures
