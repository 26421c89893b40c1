use Rattle.laws_progress.proofs.VersionsSpread.{versions_spread}
use Rattle.laws_progress.proofs.versions_spread_in_rounds.Goals as goal

pub returns : goal.returns
returns c = versions_spread
