use Rattle.sp_text.proofs.NextLine.{is_not_empty}
use Rattle.sp_schedule.proofs.FeedLemmas.{ends_empty, ends_open, is_empty}
use Rattle.sp_schedule.proofs.feed.Feed.finish.Goals as goal

pub returns-then-is_empty : goal.returns-then-is_empty
returns-then-is_empty c =
    rw (← c.self.view_is)
    (ends_empty (record { stage = c.self.inside.stage; count = c.self.inside.count; waiting = c.self.inside.waiting.items }) c.args.is_cut c.nothing_left.result
    c.self.invariant.0
    (is_empty c.self.inside.waiting.items (rw c.as_slice.ensures.value at c.if-is_empty.ensures)) c.nothing_left.ensures)

pub returns-else-is_empty : goal.returns-else-is_empty
returns-else-is_empty c =
    rw (← c.self.view_is)
    (ends_open (record { stage = c.self.inside.stage; count = c.self.inside.count; waiting = c.self.inside.waiting.items }) c.args.is_cut c.open_line.result
    c.self.invariant.0
    (is_not_empty c.self.inside.waiting.items (rw c.as_slice.ensures.value at c.if-is_empty.ensures)) (rw (← c.self.view_is) at c.requires) c.open_line.ensures)
