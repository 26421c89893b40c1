use Rattle.sp_auditor.specs.declared.verdict.Verdict.TheVariants as verdicts
use Rattle.sp_auditor.proofs.VerdictLemmas.{one_verdict}
use Rattle.sp_auditor.proofs.laws.no_cause_beside_a_verdict.Goals as goal

pub returns : goal.returns
returns c = λ schedule journal verdict cause is beside. one_verdict schedule journal verdict (verdicts.Unjudged cause) is beside
