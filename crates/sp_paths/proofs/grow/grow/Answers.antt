use Rattle.sp_paths.proofs.GrowSteps.{grow_on, has_room, stays_low}
use Rattle.sp_paths.proofs.grow.grow.Goals as goal

pub nearest-requires-clause-low : goal.nearest-requires-clause-low
nearest-requires-clause-low c =
    stays_low c.args.potential.now c.args.s c.args.lanes.now c.turns.potential c.turns.reached c.turns.tree.items c.requires.ready c.turns.invariant

pub raise-requires-clause-room : goal.raise-requires-clause-room
raise-requires-clause-room c =
    has_room c.args.potential.now c.args.s c.args.lanes.now c.turns.potential c.turns.reached c.turns.tree.items c.requires.ready c.turns.invariant
    c.in-Some.place c.in-Some.gap c.in-Some.ensures

pub turns-preserved : goal.turns-preserved
turns-preserved c =
    rw (c.in_ok-push.ensures.items, c.head.ensures)
    (grow_on c.args.potential.now c.args.s c.args.lanes.now c.turns.potential c.turns.reached c.turns.tree.items c.requires.ready c.turns.invariant
    c.in-Some.place c.in-Some.gap c.in-Some.ensures
    c.raise.new.potential c.raise.ensures.lengths c.raise.ensures.raised)
