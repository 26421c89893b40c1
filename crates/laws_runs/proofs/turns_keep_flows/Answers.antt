use Rattle.laws_runs.proofs.FlowRuns.{turns_keep_flows}
use Rattle.laws_runs.proofs.turns_keep_flows.Goals as goal

pub returns : goal.returns
returns c = turns_keep_flows
