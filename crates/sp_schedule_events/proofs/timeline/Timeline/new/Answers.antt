use Rattle.std.proofs.Common.{refl}
use Rattle.sp_schedule_events.proofs.LifeLemmas.{none_flagged}
use Rattle.sp_schedule_events.proofs.timeline.Timeline.new.Goals as goal

pub invariant_of-result : goal.invariant_of-result
invariant_of-result c =
    rw (c.new.ensures.items, c.new-2.ensures, c.none_published.ensures) (record { counted = λ u v. refl; flagged = none_flagged; published = refl })
