use Rattle.laws_sessions.proofs.NumberLemmas.{each_runs_once}
use Rattle.laws_sessions.proofs.each_request_runs_once_and_in_order.Goals as goal

pub returns : goal.returns
returns g c = each_runs_once g.L.Local.steps
