use Rattle.laws_runs.proofs.FlowRuns.{flows_are_kept_over_lives}
use Rattle.laws_runs.proofs.flows_are_kept_over_lives.Goals as goal

pub returns : goal.returns
returns c = flows_are_kept_over_lives
