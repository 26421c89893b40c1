use Rattle.sp_generate.specs.Generated.{both_ways}
use Rattle.sp_generate.proofs.Turns.{turned, twice}
use Rattle.sp_generate.proofs.happenings.push_both_ways.Goals as goal

pub turns-preserved : goal.turns-preserved
turns-preserved c =
    turned (both_ways c.args.number) c.turns.events.items c.push_rel-in-turns.new.events.items _ c.turns.turn 17 c.turns-test.true c.turns.invariant
    (twice c.turns.events.items c.push_rel.new.events.items c.push_rel-in-turns.new.events.items _ _ c.in_ok-push_rel.ensures c.in_ok-push_rel-2.ensures)
