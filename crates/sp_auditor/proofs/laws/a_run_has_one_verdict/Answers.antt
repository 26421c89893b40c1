use Rattle.sp_auditor.proofs.VerdictLemmas.{one_verdict}
use Rattle.sp_auditor.proofs.laws.a_run_has_one_verdict.Goals as goal

pub returns : goal.returns
returns c = one_verdict
