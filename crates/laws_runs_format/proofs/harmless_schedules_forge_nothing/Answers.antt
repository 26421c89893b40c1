use Rattle.laws_runs_format.proofs.Unforged.{harmless_schedules_forge_nothing}
use Rattle.laws_runs_format.proofs.harmless_schedules_forge_nothing.Goals as goal

pub returns : goal.returns
returns c = harmless_schedules_forge_nothing
