use Rattle.sp_generate.proofs.Schedules.{are_schedules}
use Rattle.sp_generate.proofs.laws.generated_are_schedules.Goals as goal

pub returns : goal.returns
returns c = are_schedules
