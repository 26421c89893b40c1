use Rattle.sp_generate.specs.Generated.{by_priority}
use Rattle.sp_generate.proofs.Turns.{turned, twice}
use Rattle.sp_generate.proofs.happenings.push_by_priority.Goals as goal

pub turns-preserved : goal.turns-preserved
turns-preserved c =
    turned (by_priority c.args.number) c.turns.events.items c.push_prio-in-turns.new.events.items _ c.turns.turn 5 c.turns-test.true c.turns.invariant
    (twice c.turns.events.items c.push_prio.new.events.items c.push_prio-in-turns.new.events.items _ _ c.in_ok-push_prio.ensures c.in_ok-push_prio-2.ensures)
