use Rattle.std.proofs.Common.{◌+◌, refl, arith}
use Rattle.sp_schedule.specs.Feeds.{Fed}
use Rattle.sp_schedule.proofs.FeedLemmas.{WasRead, was_read}
use Rattle.sp_schedule.proofs.feed.Feed.line.Goals as goal

abbrev before : goal.After-clear → Fed
before c = record { stage = c.self.inside.stage; count = c.self.inside.count; waiting = c.self.inside.waiting.items }

abbrev after : goal.After-clear → Fed
after c = record { stage = c.in-To.next; count = c.self.inside.count + 1; waiting = c.clear.new.self.items }

read : (c : goal.After-clear) → WasRead (before c) (after c) c.in-To.parsed
read c = was_read (before c) (after c) c.in-To.parsed c.lead_of.result c.self.invariant.0
    (rw (c.deref.ensures.value, c.replace-stage.ensures.value) at c.lead_of.ensures) c.in-To.is refl c.clear.ensures.items

pub invariant_of-self : goal.invariant_of-self
invariant_of-self c = rw c.put.ensures ((read c).feed, omega (arith, c.self.invariant.1, c.clear.ensures.capacity))

pub returns-in-To-clause-line : goal.returns-in-To-clause-line
returns-in-To-clause-line c = rw (← c.self.view_is, c.put.ensures) ((read c).takes, (read c).text)

pub returns-in-To-clause-good_stage : goal.returns-in-To-clause-good_stage
returns-in-To-clause-good_stage c = rw c.put.ensures (read c).good
