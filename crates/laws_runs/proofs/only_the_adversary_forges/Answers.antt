use Rattle.laws_runs.proofs.Passes.{only_the_adversary}
use Rattle.laws_runs.proofs.only_the_adversary_forges.Goals as goal

pub returns : goal.returns
returns c = only_the_adversary
