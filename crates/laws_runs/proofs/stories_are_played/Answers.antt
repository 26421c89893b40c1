use Rattle.laws_runs.proofs.Stories.{stories_are_played}
use Rattle.laws_runs.proofs.stories_are_played.Goals as goal

pub returns : goal.returns
returns c = stories_are_played
