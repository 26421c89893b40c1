use Rattle.sp_store.proofs.PlaceLemmas.{live_rises}
use Rattle.sp_store.proofs.places.Places.slots.Goals as goal

pub returns-clause-rising : goal.returns-clause-rising
returns-clause-rising c = rw (← c.self.view_is) (live_rises 0 c.self.inside.map.entries c.self.invariant.stand)
