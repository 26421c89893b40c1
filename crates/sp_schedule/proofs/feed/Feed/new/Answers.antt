use Rattle.std.proofs.Common.{arith}
use Rattle.sp_schedule.proofs.FeedLemmas.{is_feed_unfed}
use Rattle.sp_schedule.proofs.feed.Feed.new.Goals as goal

pub invariant_of-result : goal.invariant_of-result
invariant_of-result c = (rw c.in_ok-waiting.ensures.items is_feed_unfed, omega (arith, c.in_ok-waiting.ensures.capacity))
