use Rattle.sp_service_turns.proofs.TurnLawLemmas.{they_end_late}
use Rattle.sp_service_turns.proofs.laws.key_files_end_late.Goals as goal

pub returns : goal.returns
returns c = they_end_late
