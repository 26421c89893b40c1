use Rattle.sp_generate.specs.Generated.{cycle}
use Rattle.sp_generate.proofs.Turns.{turned}
use Rattle.sp_generate.proofs.happenings.push_cycles.Goals as goal

pub turns-preserved : goal.turns-preserved
turns-preserved c =
    turned cycle c.turns.events.items c.push_cycle.new.events.items _ c.turns.turn 131 c.turns-test.true c.turns.invariant c.in_ok-push_cycle.ensures
