use Rattle.sp_generate.proofs.Schedules.{have_their_length}
use Rattle.sp_generate.proofs.laws.generated_have_their_length.Goals as goal

pub returns : goal.returns
returns c = have_their_length
