-- The lemmas that the start of a daemon needs together.
use Rattle.sp_service.proofs.Beginnings.{begins}
use Rattle.sp_service.proofs.Endings.{daemon, kept_quiet, no_memory, told}

pub ruleset started = (told, daemon, no_memory, kept_quiet, begins)
