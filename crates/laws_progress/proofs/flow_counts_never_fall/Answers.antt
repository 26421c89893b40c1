use Rattle.laws_progress.proofs.Counts.{flow_counts_never_fall}
use Rattle.laws_progress.proofs.flow_counts_never_fall.Goals as goal

pub returns : goal.returns
returns c = flow_counts_never_fall
