use Rattle.laws_runs.proofs.PlaceRuns.{turns_keep_shares}
use Rattle.laws_runs.proofs.turns_keep_shares.Goals as goal

pub returns : goal.returns
returns c = turns_keep_shares
