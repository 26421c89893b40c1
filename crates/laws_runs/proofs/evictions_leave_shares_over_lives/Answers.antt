use Rattle.laws_runs.proofs.PlaceRuns.{evictions_leave_shares_over_lives}
use Rattle.laws_runs.proofs.evictions_leave_shares_over_lives.Goals as goal

pub returns : goal.returns
returns c = evictions_leave_shares_over_lives
