use Rattle.laws_paths.proofs.Crossings.{small_cut_proves_fewer}
use Rattle.laws_paths.proofs.laws.a_small_cut_proves_fewer.Goals as goal

pub returns : goal.returns
returns c = small_cut_proves_fewer
