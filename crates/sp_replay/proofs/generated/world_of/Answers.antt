use Rattle.std.proofs.Common.{◌∙◌}
use Rattle.sp_replay.proofs.GeneratedRuns.{generated_run}
use Rattle.sp_replay.proofs.generated.world_of.Goals as goal

pub returns-clause-run : goal.returns-clause-run
returns-clause-run c =
    generated_run c.generated_forge_nothing.ensures c.args.number c.in_ok-made.made.scenario c.into_vec.result.items c.in_ok-world.world
    c.in_ok-made.ensures.scenario
    (c.into_vec.ensures ∙ c.in_ok-made.ensures.events) c.in_ok-world.ensures.run
