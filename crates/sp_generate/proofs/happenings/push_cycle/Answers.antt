use Rattle.std.specs.List.{flat_map}
use Rattle.sp_schedule_events.specs.declared.event.Event.TheVariants as events
use Rattle.sp_generate.specs.Generated.{cycle, directions, frame, node}
use Rattle.sp_generate.proofs.Turns.{two_more}
use Rattle.sp_generate.proofs.happenings.push_cycle.Goals as goal

pub returns : goal.returns
unfolding cycle
returns c =
    two_more c.args.events.now.items c.push_frames.new.events.items c.push_tick.new.events.items c.push_tick-2.new.events.items
    (flat_map (frame c.args.turn) directions)
    (events.Tick (node 1) c.args.turn) (events.Tick (node 7) c.args.turn) c.in_ok-push_frames.ensures c.in_ok-push_tick.ensures c.in_ok-push_tick-2.ensures
