use Rattle.sp_service_turns.proofs.RecordedLemmas.{recorded}
use Rattle.sp_service_turns.proofs.laws.recordings_agree.Goals as goal

pub returns : goal.returns
returns g c = recorded g.N.Core.steps g.N.Core.indexes
