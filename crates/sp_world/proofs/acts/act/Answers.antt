use Rattle.sp_world.proofs.Standing.{can_begin}
use Rattle.sp_world.proofs.acts.act.Goals as goal

-- src/acts.rt:52:45
pub start-requires-clause-can : goal.start-requires-clause-can
start-requires-clause-can c =
    let k = c.args.known.now in
    can_begin k.scenario.now k.events.now k.journal.now c.args.scene.now c.args.event.now c.in-Start.u c.requires.stands c.in-Start.is
