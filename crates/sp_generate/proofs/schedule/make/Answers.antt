use Rattle.sp_generate.proofs.Schedules.{are_schedules}
use Rattle.sp_generate.proofs.schedule.make.Goals as goal

pub returns-clause-schedule : goal.returns-clause-schedule
returns-clause-schedule c = rw (c.in_ok-scenario.ensures, c.from_vec.ensures, c.in_ok-events.ensures) (are_schedules c.args.number)
