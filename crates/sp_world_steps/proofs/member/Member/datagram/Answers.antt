use Rattle.sp_world_steps.proofs.member.Member.datagram.Goals as goal

pub returns-clause-step : goal.returns-clause-step
returns-clause-step c = rw (← c.self.view_is) c.datagram.ensures.step
