use Rattle.std.proofs.Common.{arith}
use Rattle.sp_schedule_events.proofs.CountLemmas.{polls_below}
use Rattle.sp_schedule_events.proofs.LifeLemmas.{kept_more}
use Rattle.sp_schedule_events.proofs.PublishedLemmas.{versions_below}
use Rattle.sp_schedule_events.proofs.timeline.Timeline.push.Goals as goal

pub count-requires : goal.count-requires
count-requires c = λ u v.
    let few = rw (← c.self.view_is) at c.requires in
    omega (arith, c.self.invariant.counted u v, polls_below c.self.inside.events.items u v)

pub add_list-requires : goal.add_list-requires
add_list-requires c =
    let few = rw (← c.self.view_is) at c.requires in
    let below = versions_below c.self.inside.events.items in
    let kept = rw (← c.self.invariant.published) at below in
    omega (arith, few, kept)

pub invariant_of-self-2 : goal.invariant_of-self-2
invariant_of-self-2 c =
    rw (c.push_in_room.ensures.items, c.in_ok-count.ensures.ok, c.note.ensures, c.add_list.ensures, c.in_ok-list.ensures, c.reserve.ensures.items)
    (kept_more c.self.inside.events.items c.self.inside.counts c.self.inside.started c.self.inside.published c.args.event c.self.invariant)
