use Rattle.laws_runs.proofs.PlaceRuns.{places_are_told}
use Rattle.laws_runs.proofs.places_are_told.Goals as goal

pub returns : goal.returns
returns c = places_are_told
