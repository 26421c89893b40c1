use Rattle.laws_runs_format.proofs.Audited.{claimed_runs_pass_audits, runs_pass_audits}
use Rattle.laws_runs_format.proofs.runs_pass_audits.Goals as goal

pub returns-clause-runs : goal.returns-clause-runs
returns-clause-runs c = runs_pass_audits

pub returns-clause-claimed : goal.returns-clause-claimed
returns-clause-claimed c = claimed_runs_pass_audits
