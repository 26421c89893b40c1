use Rattle.laws_progress.proofs.Rising.{versions_never_fall}
use Rattle.laws_progress.proofs.versions_never_fall.Goals as goal

pub returns : goal.returns
returns c = versions_never_fall
