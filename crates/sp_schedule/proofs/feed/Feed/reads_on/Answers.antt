use Rattle.std.proofs.Common.{sym}
use Rattle.sp_schedule.proofs.OnLemmas.{read_so_far, reads_on}
use Rattle.sp_schedule.proofs.feed.Feed.reads_on.Goals as goal

pub returns-clause-so_far : goal.returns-clause-so_far
returns-clause-so_far c =
    rw (← c.self.view_is)
    (read_so_far (record { stage = c.self.inside.stage; count = c.self.inside.count; waiting = c.self.inside.waiting.items }) c.self.invariant.0)

pub returns-clause-more : goal.returns-clause-more
returns-clause-more c =
    rw (← c.self.view_is)
    (reads_on (record { stage = c.self.inside.stage; count = c.self.inside.count; waiting = c.self.inside.waiting.items }) c.self.invariant.0)
