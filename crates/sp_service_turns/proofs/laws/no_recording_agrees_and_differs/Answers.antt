use Rattle.sp_service_turns.proofs.TurnLawLemmas.{nothing_does_both}
use Rattle.sp_service_turns.proofs.laws.no_recording_agrees_and_differs.Goals as goal

pub returns : goal.returns
returns g c = nothing_does_both g.N.Core.steps
