use Rattle.sp_replay.proofs.LawLemmas.{forgeries_leave_others}
use Rattle.sp_replay.proofs.laws.what_a_forgery_leaves.Goals as goal

pub returns : goal.returns
returns c = forgeries_leave_others
