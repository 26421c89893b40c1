use Rattle.std.proofs.Common.{sym}
use Rattle.sp_schedule.proofs.WaitingLemmas.{ready_open}
use Rattle.sp_schedule.proofs.feed.Feed.ready.Goals as goal

pub returns-in-None : goal.returns-in-None
returns-in-None c =
    rw (← c.self.view_is, c.as_slice.ensures.value)
    (sym (ready_open c.self.inside.waiting.items c.self.invariant.0.front (rw c.deref.ensures.value at c.in-None.ensures.none)))
