use Rattle.laws_runs.proofs.FlowPlain.{flows_are_kept}
use Rattle.laws_runs.proofs.flows_are_kept.Goals as goal

pub returns : goal.returns
returns c = flows_are_kept
