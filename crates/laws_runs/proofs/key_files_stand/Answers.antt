use Rattle.laws_runs.proofs.KeyFiles.{key_files_stand}
use Rattle.laws_runs.proofs.key_files_stand.Goals as goal

pub returns : goal.returns
returns c = key_files_stand
