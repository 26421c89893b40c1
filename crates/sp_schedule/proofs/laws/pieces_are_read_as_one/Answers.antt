use Rattle.sp_schedule.proofs.LawLemmas.{pieces_are_read_as_one}
use Rattle.sp_schedule.proofs.laws.pieces_are_read_as_one.Goals as goal

pub returns : goal.returns
returns c = pieces_are_read_as_one
