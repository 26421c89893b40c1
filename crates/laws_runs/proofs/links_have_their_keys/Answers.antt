use Rattle.laws_runs.proofs.Neighbours.{links_have_their_keys}
use Rattle.laws_runs.proofs.links_have_their_keys.Goals as goal

pub returns : goal.returns
returns c = links_have_their_keys
