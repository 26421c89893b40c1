use Rattle.sp_node.proofs.Lengths.{polled_is_short}
use Rattle.sp_world_steps.proofs.calls.poll.Goals as goal

pub returns-in-Ok-clause-long : goal.returns-in-Ok-clause-long
returns-in-Ok-clause-long c = polled_is_short _ c.args.v _ _ c.is_kept.ensures c.requires.short c.requires.answered c.in-Ok.ensures.step
