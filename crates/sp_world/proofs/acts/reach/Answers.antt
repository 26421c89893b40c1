use Rattle.sp_world.specs.Scenes.{world_in}
use Rattle.sp_world.proofs.Moving.{missed_is_told}
use Rattle.sp_world.proofs.acts.reach.Goals as goal

-- src/acts.rt:71:9
pub returns-then-comes_to_nobody-clause-done : goal.returns-then-comes_to_nobody-clause-done
returns-then-comes_to_nobody-clause-done c =
    let k = c.args.known.now in
    missed_is_told k.scenario.now k.events.now k.journal.now (world_in c.args.scene.now) (world_in c.miss.new.scene) c.args.event.now c.in_ok-miss.field-0
    c.requires.stands c.requires.other c.in_ok-miss.ensures.down
