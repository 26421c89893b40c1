use Rattle.laws_runs_format.proofs.Generated.{generated_forge_nothing}
use Rattle.laws_runs_format.proofs.generated_forge_nothing.Goals as goal

pub returns : goal.returns
returns c = generated_forge_nothing
