use Rattle.std.proofs.Common.{refl, arith}
use Rattle.sp_schedule.proofs.FeedLemmas.{comes}
use Rattle.sp_schedule.proofs.feed.Feed.push.Goals as goal

pub invariant_of-self : goal.invariant_of-self
invariant_of-self c = (
  (comes
      (record { stage = c.self.inside.stage; count = c.self.inside.count; waiting = c.self.inside.waiting.items })
      (record { stage = c.self.inside.stage; count = c.self.inside.count; waiting = c.append.new.waiting.items })
      c.args.piece.now c.min.result c.up_to_newline-count.result c.self.invariant.0 (rw (← c.self.view_is) at c.requires.waiting)
      (rw (← c.self.view_is) at c.requires.size)
      (rw c.as_slice.ensures.value at c.min.ensures) c.up_to_newline-count.ensures.within c.up_to_newline-count.ensures.newline refl refl
      c.append.ensures.items).feed,
  omega (arith, c.self.invariant.1, c.append.ensures.room),
)
