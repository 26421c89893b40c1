use Rattle.laws_runs.proofs.LifeKeys.{keys_rise}
use Rattle.laws_runs.proofs.keys_rise.Goals as goal

pub returns : goal.returns
returns c = keys_rise
