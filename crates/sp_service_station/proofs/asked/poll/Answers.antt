use Rattle.sp_service_station.proofs.Stays.{polled_is_short}
use Rattle.sp_service_station.proofs.asked.poll.Goals as goal

pub returns-in-Ok-clause-within : goal.returns-in-Ok-clause-within
returns-in-Ok-clause-within c =
    polled_is_short c.args.node.now.state c.args.to c.in-Ok.frame c.poll.new.self.state c.is_kept.ensures c.requires c.in-Ok.ensures.step
