use Rattle.sp_top.proofs.SaidRuns.{no_command}
use Rattle.sp_top.proofs.top.run_said.Goals as goal

pub returns-in-None-clause-said : goal.returns-in-None-clause-said
returns-in-None-clause-said g c =
    rw c.in-None.is
    (no_command _ _ _ _ _ c.usage.ensures.worldless c.usage.ensures.status c.usage.ensures.written c.usage.ensures.begun)
