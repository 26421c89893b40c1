use Rattle.laws_runs.proofs.Crafts.{own_crafts_forge_nothing}
use Rattle.laws_runs.proofs.own_crafts_forge_nothing.Goals as goal

pub returns : goal.returns
returns c = own_crafts_forge_nothing
