use Rattle.sp_adversary.proofs.Counting.{crafts_are_counted}
use Rattle.sp_adversary.proofs.laws.crafting_signers_follow_a_run.Goals as goal

pub returns : goal.returns
returns c = crafts_are_counted
