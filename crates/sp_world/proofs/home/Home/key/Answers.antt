use Rattle.std.proofs.Common.{ap, ◌∙◌}
use Rattle.sp_world.proofs.Booting.{its_seed, seed_is_there}
use Rattle.sp_world.specs.Boots.{Home}
use Rattle.sp_world.proofs.home.Home.key.Goals as goal

-- src/home.rt:131:13
pub unreachable-requires : goal.unreachable-requires
unreachable-requires c =
    seed_is_there c.args.scenario.now c.args.self.now c.args.u c.deref.result.now c.from.result c.requires.home c.requires.correct
    (c.deref.ensures.value ∙ ap (λ (h : Home). h.seeds) c.self.view_is) c.from.ensures c.in_default.ensures.lookup.3

-- src/home.rt:124:5
pub returns-in-Ok : goal.returns-in-Ok
returns-in-Ok c =
    c.in-Ok.ensures.key
    ∙ its_seed c.args.scenario.now c.args.self.now c.args.u c.deref.result.now c.from.result c.in-Some.seed.now c.requires.home c.requires.correct
    (c.deref.ensures.value ∙ ap (λ (h : Home). h.seeds) c.self.view_is) c.from.ensures c.in-Some.ensures.lookup.1
