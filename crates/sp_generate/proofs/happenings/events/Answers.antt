use Rattle.std.specs.List.{flat_map, range_with_len}
use Rattle.std.proofs.Common.{replicate}
use Rattle.sp_schedule_events.specs.declared.event.Event.TheVariants as events
use Rattle.sp_generate.specs.Generated.{both_ways, by_priority, cycle, generated_events, hostile, node}
use Rattle.sp_generate.proofs.Turns.{six_parts}
use Rattle.sp_generate.proofs.happenings.events.Goals as goal

pub returns : goal.returns
unfolding generated_events
returns c =
    six_parts c.new-events.result.items c.push_both_ways.new.events.items c.push_by_priority.new.events.items c.push_hostile.new.events.items
    c.push_cycles.new.events.items
    c.push_takes.new.events.items c.push_takes-2.new.events.items (flat_map (both_ways c.args.number) (range_with_len 1 16))
    (flat_map (by_priority c.args.number) (range_with_len 1 4)) (hostile c.args.number) (flat_map cycle (range_with_len 1 130))
    (replicate 16 (events.Take (node 7) (node 1))) (replicate 16 (events.Take (node 1) (node 7))) c.new-events.ensures.items c.in_ok-push_both_ways.ensures
    c.in_ok-push_by_priority.ensures c.in_ok-push_hostile.ensures c.in_ok-push_cycles.ensures c.in_ok-push_takes.ensures c.in_ok-push_takes-2.ensures
