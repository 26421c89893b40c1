use Rattle.laws_runs.proofs.Kept.{what_is_kept_was_signed}
use Rattle.laws_runs.proofs.what_is_kept_was_signed.Goals as goal

pub returns : goal.returns
returns c = what_is_kept_was_signed
