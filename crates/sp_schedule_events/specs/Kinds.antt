-- The kinds of events.
use Rattle.sp_schedule_events.specs.declared.event.Event.{Event}
use Rattle.sp_schedule_events.specs.declared.event.Event.TheVariants as events

-- a frame is made, arrives, is changed on its way, or is made up
abbrev pub IsOfFrame : Event → Type 0
IsOfFrame (events.Poll u v) = Unit {0}
IsOfFrame (events.Pass u v number) = Unit {0}
IsOfFrame (events.Flip u v number back bit) = Unit {0}
IsOfFrame (events.Inject u v bytes) = Unit {0}
IsOfFrame _ = ⊥

-- a compromised node crafts a frame
abbrev pub IsCraft : Event → Type 0
IsCraft (events.Craft c v key object) = Unit {0}
IsCraft (events.CraftStatus c v s d base have) = Unit {0}
IsCraft _ = ⊥

-- a client or the clock asks for something
abbrev pub IsAsked : Event → Type 0
IsAsked (events.Rel s d payload) = Unit {0}
IsAsked (events.Prio s d prio expiry paths payload) = Unit {0}
IsAsked (events.Take d s) = Unit {0}
IsAsked (events.TakePrio d) = Unit {0}
IsAsked (events.Tick u now) = Unit {0}
IsAsked (events.Weight u v weight) = Unit {0}
IsAsked _ = ⊥

-- a client asks for something of a flow on paths
abbrev pub IsOnPaths : Event → Type 0
IsOnPaths (events.Krel s d paths payload) = Unit {0}
IsOnPaths (events.KTake d s) = Unit {0}
IsOnPaths _ = ⊥

-- the administrator's document is handed to a node, or a compromised node sends one
abbrev pub IsOfDocument : Event → Type 0
IsOfDocument (events.Publish u weights) = Unit {0}
IsOfDocument (events.CraftDocument c v key version weights) = Unit {0}
IsOfDocument _ = ⊥
