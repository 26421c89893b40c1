-- Who acts at an event.
use Rattle.sp_base.specs.declared.id.NodeId.{NodeId}
use Rattle.sp_schedule_events.specs.declared.event.Event.{Event}
use Rattle.sp_schedule_events.specs.declared.event.Event.TheVariants as events

-- the node that makes a step, to which bytes come, or which starts or stops
abbrev pub acting : Event → NodeId
acting (events.Rel s d payload) = s
acting (events.Prio s d prio expiry paths payload) = s
acting (events.Take d s) = d
acting (events.TakePrio d) = d
acting (events.Tick u now) = u
acting (events.Weight u v weight) = u
acting (events.Poll u v) = u
acting (events.Pass u v number) = v
acting (events.Flip u v number back bit) = v
acting (events.Inject u v bytes) = v
acting (events.Craft c v key object) = v
acting (events.CraftStatus c v s d base have) = v
acting (events.Start u) = u
acting (events.Stop u) = u
acting (events.Publish u weights) = u
acting (events.Krel s d paths payload) = s
acting (events.KTake d s) = d
acting (events.CraftDocument c v key version weights) = v
