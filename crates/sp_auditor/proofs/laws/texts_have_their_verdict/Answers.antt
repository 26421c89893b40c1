use Rattle.sp_auditor.proofs.VerdictLemmas.{texts_have_their_verdict}
use Rattle.sp_auditor.proofs.laws.texts_have_their_verdict.Goals as goal

pub returns : goal.returns
returns c = texts_have_their_verdict
